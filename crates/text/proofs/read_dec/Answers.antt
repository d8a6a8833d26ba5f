-- `text::read_dec` meets its contract. Each answer is what the definition says of the byte that stands there. Assumes nothing.
use native.Mathlib.Omega.{arith}
use Prim.Native.Nat.{◌+◌, ◌-◌}
use mathlib.Core.Path.{◌≡◌, sym, ap, ◌∙◌}
use lib.ListN.{drop, get_or}
use Rattle.std.specs.Char.{is_ascii_digit}
use Rattle.text.specs.Scan.{scan_dec}
use Rattle.text.proofs.Steps.{at-end, at_zero, at_other, at-digit}
use Rattle.text.proofs.read_dec.Goals as goal

pub returns-in_err-c : goal.returns-in_err-c
returns-in_err-c c = c.from_residual.ensures ∙ sym (at-end c.args.s.now c.args.at (let h = c.in_err-c.ensures.lookup in grind arith))

pub returns-then-c-eq-ZERO : goal.returns-then-c-eq-ZERO
returns-then-c-eq-ZERO c =
    let h = c.in_ok-c.ensures.lookup in
    c.after_zero.ensures ∙ sym (at_zero c.args.s.now c.args.at h.3.0 (sym (h.3.1 0) ∙ c.if-c-eq-ZERO.true))

pub returns-then-not-is_ascii_digit : goal.returns-then-not-is_ascii_digit
returns-then-not-is_ascii_digit c =
    let h = c.in_ok-c.ensures.lookup in
    sym (at_other c.args.s.now c.args.at h.3.0 (λ e. c.if-c-eq-ZERO.false (h.3.1 0 ∙ e)) (ap is_ascii_digit (sym (h.3.1 0)) ∙ sym c.is_ascii_digit.ensures.value ∙ c.if-not-is_ascii_digit.true))

pub returns : goal.returns
returns c =
    let h = c.in_ok-c.ensures.lookup in
    let e : get_or c.args.s.now c.args.at 0 - 48 ≡ c.from.result = omega (arith, c.from.ensures, h.3.1 0) in
    c.scan_dec.ensures ∙ sym (at-digit c.args.s.now c.args.at h.3.0 (λ e. c.if-c-eq-ZERO.false (h.3.1 0 ∙ e)) (ap is_ascii_digit (sym (h.3.1 0)) ∙ sym c.is_ascii_digit.ensures.value ∙ c.if-not-is_ascii_digit.false)
    ∙ ap (λ v. scan_dec v (c.args.at + 1) (drop (c.args.at + 1) c.args.s.now)) e)
