use native.Mathlib.Omega.{arith}
use mathlib.Core.Path.{◌≡◌, sym, ap, ◌∙◌}
use Prim.Native.Nat.{◌+◌, ◌*◌, ◌-◌}
use lib.ListN.{drop, get_or}
use Rattle.text.specs.Scan.{found, scan_dec}
use Rattle.text.proofs.Steps.{scan-end, scan-stop, scan-over, scan-next}
use Rattle.text.proofs.scan_dec.Goals as goal

pub returns-then-not-is_ascii_digit : goal.returns-then-not-is_ascii_digit
returns-then-not-is_ascii_digit c = sym (c.loop-next.invariant.1 ∙ scan-stop c.args.s.now c.loop-next.next c.loop-next.value c.loop-next-test.true (sym c.is_ascii_digit.ensures.value ∙ c.if-not-is_ascii_digit.true))

pub returns-in_err-checked_mul : goal.returns-in_err-checked_mul
returns-in_err-checked_mul c =
    let h = c.in_err-checked_mul.ensures in
    c.from_residual.ensures ∙ sym (c.loop-next.invariant.1 ∙ scan-over c.args.s.now c.loop-next.next c.loop-next.value c.loop-next-test.true (sym c.is_ascii_digit.ensures.value ∙ c.if-not-is_ascii_digit.false) (omega arith))

pub returns-in_err-value : goal.returns-in_err-value
returns-in_err-value c =
    let h = c.in_ok-checked_mul.ensures in
    let k = c.in_err-value.ensures in
    c.from_residual-in_err-value.ensures ∙ sym (c.loop-next.invariant.1 ∙ scan-over c.args.s.now c.loop-next.next c.loop-next.value c.loop-next-test.true (sym c.is_ascii_digit.ensures.value ∙ c.if-not-is_ascii_digit.false) (omega (arith, c.from.ensures)))

pub loop-next-preserved : goal.loop-next-preserved
loop-next-preserved c =
    let h = c.in_ok-checked_mul.ensures in
    let k = c.in_ok-value.ensures in
    let e : c.loop-next.value * 10 + (get_or c.args.s.now c.loop-next.next 0 - 48) ≡ c.in_ok-value.value = omega (arith, c.from.ensures) in (
      omega arith,
      c.loop-next.invariant.1 ∙ scan-next c.args.s.now c.loop-next.next c.loop-next.value c.loop-next-test.true (sym c.is_ascii_digit.ensures.value ∙ c.if-not-is_ascii_digit.false) (omega arith)
          ∙ ap (λ v. scan_dec v (c.loop-next.next + 1) (drop (c.loop-next.next + 1) c.args.s.now)) e,
    )

pub returns : goal.returns
returns c =
    let e : c.loop-next.next ≡ c.max.result = omega (arith, c.max.ensures, c.loop-next.invariant.0) in
    sym (c.loop-next.invariant.1 ∙ scan-end c.args.s.now c.loop-next.next c.loop-next.value c.loop-next-test.false ∙ ap (found c.loop-next.value) e)
