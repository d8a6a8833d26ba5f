use native.Mathlib.Omega.{arith}
use Rattle.bench.specs.Seats.{FirstFree}
use Rattle.bench.proofs.Records.{count-first, count_next, count-end}
use Rattle.bench.proofs.seat.count_free.Goals as goal

pub loop-free-init : goal.loop-free-init
loop-free-init c = (omega arith, omega arith, count-first _)

pub loop-free-preserved : goal.loop-free-preserved
loop-free-preserved c =
    let f : FirstFree c.args.marks.now c.loop-free.from c.args.n c.in-Some.free = c.in-Some.ensures in
    (omega (arith, f.below), omega (arith, f.from), count_next _ _ _ _ _ f c.loop-free.invariant.2)

pub returns-clause-count : goal.returns-clause-count
returns-clause-count c = count-end _ _ _ _ c.loop-free.invariant.0 c.in_default.ensures c.loop-free.invariant.2
