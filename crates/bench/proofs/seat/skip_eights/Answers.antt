use native.Mathlib.Omega.{arith}
use Rattle.bench.proofs.Records.{marked-none, marked-both}
use Rattle.bench.proofs.seat.skip_eights.Goals as goal

pub loop-i-init : goal.loop-i-init
loop-i-init c = (omega arith, omega arith, marked-none _ _)

pub loop-i-preserved : goal.loop-i-preserved
loop-i-preserved c = (omega arith, omega arith, marked-both _ _ _ _ c.loop-i.invariant.2 (c.has_eight.ensures c.if-has_eight.true))
