use native.Mathlib.Omega.{arith}
use Prim.Native.Nat.{◌+◌, ◌-◌}
use mathlib.Core.Path.{◌≡◌, sym, ◌∙◌}
use lib.ListN.{drop, get_or}
use Rattle.text.specs.Scan.{hex_at}
use Rattle.text.proofs.Bytes.{digit_none, digit_some}
use Rattle.text.proofs.Steps.{hex-end, hex-stop, hex-go, hex-room, hex-small, hex-more}
use Rattle.text.proofs.read_hex.Goals as goal

pub returns-then-saturating_sub-digits : goal.returns-then-saturating_sub-digits
unfolding hex_at
returns-then-saturating_sub-digits c = sym (hex-room c.args.digits c.args.s.now c.args.at 0 (omega arith))

pub overflow_mul-value : goal.overflow_mul-value
overflow_mul-value c = omega (arith, hex-small c.loop-i.value (c.loop-i.i - c.args.at) c.loop-i.invariant.0 (omega arith))

pub returns-in_err-value : goal.returns-in_err-value
unfolding hex_at
returns-in_err-value c = c.from_residual.ensures ∙ sym (c.loop-i.invariant.1 ∙ hex-stop c.args.s.now c.loop-i.i c.loop-i.value (omega arith) _ (omega arith) (digit_none (get_or c.args.s.now c.loop-i.i 0) c.in_err-value.ensures))

pub overflow_add-value : goal.overflow_add-value
overflow_add-value c = omega (arith, digit_some (get_or c.args.s.now c.loop-i.i 0) c.in_ok-value.field-0 c.in_ok-value.ensures, hex-small c.loop-i.value (c.loop-i.i - c.args.at) c.loop-i.invariant.0 (omega arith))

pub loop-i-preserved : goal.loop-i-preserved
loop-i-preserved c =
    let d = digit_some (get_or c.args.s.now c.loop-i.i 0) c.in_ok-value.field-0 c.in_ok-value.ensures in
    let e : c.args.at + c.args.digits - c.loop-i.i - 1 ≡ c.args.at + c.args.digits - (c.loop-i.i + 1) = omega arith in (
      hex-more c.args.at c.loop-i.i c.loop-i.value c.in_ok-value.field-0 c.loop-i.invariant.0 d.1 c.loop-i.auto.i,
      c.loop-i.invariant.1 ∙ hex-go c.args.s.now c.loop-i.i c.loop-i.value (omega arith) _ (omega arith) (omega (arith, d)) ∙ rw (e, sym d.0),
    )

pub returns : goal.returns
unfolding hex_at
returns c = sym (c.loop-i.invariant.1 ∙ (let e : c.loop-i.i ≡ c.args.at + c.args.digits = omega arith in hex-end c.loop-i.value c.loop-i.i (c.args.at + c.args.digits - c.loop-i.i) (drop c.loop-i.i c.args.s.now) (omega arith) ∙ rw e))
