use native.Mathlib.Omega.{arith}
use Rattle.bench.specs.Seats.{FirstFree}
use Rattle.bench.proofs.Records.{fill-first, fill-next, fill_end}
use Rattle.bench.proofs.seat.fill.Goals as goal

pub loop-free-init : goal.loop-free-init
loop-free-init c = (omega arith, fill-first _ _)

pub loop-free-preserved : goal.loop-free-preserved
loop-free-preserved c =
    let f : FirstFree c.args.marks.now c.loop-free.from c.args.n c.in-Some.free = c.in-Some.ensures in
    (omega (arith, f.below), fill-next _ _ _ _ _ _ _ f c.loop-free.invariant.1 c.record_push.ensures)

pub returns : goal.returns
returns c = fill_end _ _ _ _ _ c.loop-free.invariant.0 c.in_default.ensures c.loop-free.invariant.1
