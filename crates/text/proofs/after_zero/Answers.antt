-- `text::after_zero` meets its contract. Assumes nothing.
use mathlib.Core.Path.{sym, ◌∙◌}
use Rattle.text.proofs.Steps.{zero-end, zero_more, zero-stop}
use Rattle.text.proofs.after_zero.Goals as goal
use Rattle.text.proofs.after_zero.Goals.{else-next-s-via-then-next-s+else-is_ascii_digit, else-next-s-via-else-next-s}

pub returns-then-is_ascii_digit : goal.returns-then-is_ascii_digit
returns-then-is_ascii_digit c = sym (zero_more c.args.s.now c.args.next c.if-next-s.true (sym c.is_ascii_digit.ensures.value ∙ c.if-is_ascii_digit.true))

pub returns : goal.returns
returns c =
    elim c.else-next-s.branch [ else-next-s-via-then-next-s+else-is_ascii_digit w ↦ sym (zero-stop c.args.s.now c.args.next w.if-next-s.true (sym w.is_ascii_digit.ensures.value ∙ w.if-is_ascii_digit.false)) | else-next-s-via-else-next-s w ↦ sym (zero-end c.args.s.now c.args.next w.if-next-s.false) ]
