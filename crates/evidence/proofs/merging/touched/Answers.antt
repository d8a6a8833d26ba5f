use native.Mathlib.Omega.{arith}
use mathlib.Core.Path.{◌∙◌}
use Rattle.evidence.proofs.Taken.{below-taken, at-taken, end-taken}
use Rattle.evidence.proofs.Merges as laws
use Rattle.evidence.proofs.merging.touched.Goals as goal

pub loop-s-init : goal.loop-s-init
loop-s-init c = laws.touched-first _ _

pub loop-s-preserved : goal.loop-s-preserved
loop-s-preserved c =
    let at = at-taken _ _ _ c.loop-s-test.true in
    let l = below-taken _ _ c.args.listed.now c.loop-s-test.true in
    laws.touched-next _ _ (omega (arith, l, c.record_length.ensures.1)) c.loop-s.invariant (rw at at c.bound.ensures) (rw at at c.barred.ensures) c.either-told.ensures c.either-seen.ensures

pub returns : goal.returns
returns c = laws.touched-all _ _ _ (end-taken _ _ _ (omega (arith, c.record_length.ensures.1)) c.loop-s.auto.s-index-end c.loop-s-test.false ∙ c.record_length.ensures.0) c.loop-s.invariant
