use native.Mathlib.Omega.{arith}
use mathlib.Core.Path.{◌∙◌}
use Rattle.evidence.proofs.Taken.{below-taken, at-taken, end-taken}
use Rattle.evidence.proofs.Payloads as laws
use Rattle.evidence.proofs.prepares.list.Goals.{then-is_prepare, else-is_prepare}
use Rattle.evidence.proofs.prepares.list.Goals as goal

pub loop-s-init : goal.loop-s-init
loop-s-init c = laws.list-first _ _ _ c.clear.ensures

pub loop-s-preserved : goal.loop-s-preserved
loop-s-preserved c =
    let at = at-taken _ _ _ c.loop-s-test.true in
    let l = below-taken _ _ c.args.ids.now c.loop-s-test.true in
    elim c.if-is_prepare.branch [
      | then-is_prepare w ↦ rw (w.keys-is, w.rows-is, w.n-is) (laws.list-more _ _ _ _ (omega (arith, l, c.record_length.ensures.1)) (rw at at c.is_prepare.ensures) c.loop-s.invariant w.if-is_prepare.true (rw at at w.add.ensures))
      | else-is_prepare w ↦ rw (w.keys-is, w.rows-is, w.n-is) (laws.list-skip _ _ _ _ (omega (arith, l, c.record_length.ensures.1)) (rw at at c.is_prepare.ensures) c.loop-s.invariant w.if-is_prepare.false)
    ]

pub returns : goal.returns
returns c = laws.list-whole _ _ _ _ (end-taken _ _ _ (omega (arith, c.record_length.ensures.1)) c.loop-s.auto.s-index-end c.loop-s-test.false ∙ c.record_length.ensures.0) c.loop-s.invariant
