use native.Mathlib.Omega.{arith}
use mathlib.Core.Path.{◌≡◌, subst}
use Rattle.bench.specs.Seats.{Marked}
use Rattle.bench.proofs.Records.{marked_more}
use Rattle.bench.proofs.seat.first_free.Goals as goal

pub loop-i-init : goal.loop-i-init
loop-i-init c = c.skip_eights-i.ensures.2

pub returns-then-not-marks-i : goal.returns-then-not-marks-i
returns-then-not-marks-i c = record { from = omega arith; below = omega arith; passed = c.loop-i.invariant; free = c.if-not-marks-i.true }

pub loop-i-preserved : goal.loop-i-preserved
loop-i-preserved c = marked_more _ _ _ c.loop-i.invariant c.if-not-marks-i.false

pub returns : goal.returns
returns c = let e : c.loop-i.i ≡ c.args.n = omega arith in subst (Marked c.args.marks.now c.args.from) e c.loop-i.invariant
