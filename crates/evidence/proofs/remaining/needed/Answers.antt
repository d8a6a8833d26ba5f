use native.Mathlib.Omega.{arith}
use Rattle.evidence.proofs.Taken.{below-taken, at-taken, end-taken}
use Rattle.evidence.proofs.Needing as laws
use Rattle.evidence.proofs.remaining.needed.Goals as goal

pub loop-i-init : goal.loop-i-init
loop-i-init c = laws.needed-first _ _ _ _ c.told-needed

pub loop-i-preserved : goal.loop-i-preserved
loop-i-preserved c =
    let at = at-taken _ _ _ c.loop-i-test.true in
    let l = below-taken _ _ c.args.greatest.now c.loop-i-test.true in
    rw c.from-count.ensures (laws.needed-next _ _ _ _ _ _ _ (omega (arith, l, c.requires)) at c.loop-i.invariant _ c.is_needed.ensures)

pub returns : goal.returns
returns c = laws.needed-all _ _ _ _ _ _ _ _ (end-taken _ _ _ (omega (arith, c.requires)) c.loop-i.auto.i-end c.loop-i-test.false) c.requires c.top_of-t.ensures c.loop-i.invariant
