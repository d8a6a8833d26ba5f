use native.Mathlib.Omega.{arith}
use mathlib.Core.Path.{ap, ◌∙◌}
use Rattle.evidence.proofs.Taken.{below-taken, at-taken, end-taken}
use Rattle.views.specs.Tally.{place_in}
use Rattle.evidence.proofs.Acked as laws
use Rattle.evidence.proofs.certificates.stored.Goals.{then-stores_one, else-stores_one}
use Rattle.evidence.proofs.certificates.stored.Goals as goal

pub loop-x-init : goal.loop-x-init
loop-x-init c = laws.stored-first _ _ _ _ _ _ c.requires _ _

pub loop-x-preserved : goal.loop-x-preserved
loop-x-preserved c =
    let at = at-taken _ _ _ c.loop-x-test.true in
    let l = below-taken _ _ c.args.groups.now c.loop-x-test.true in
    let p = c.place_of.ensures ∙ ap place_in at in
    elim c.if-stores_one.branch [
      | then-stores_one w ↦ rw w.seen-is (laws.stored_more _ _ _ _ _ _ c.requires _ _ c.loop-x.invariant _ p _ c.stores_one.ensures _ l w.if-stores_one.true w.notice_of.ensures.0 w.with_notice-seen.ensures)
      | else-stores_one w ↦ rw w.seen-is (laws.stored-not _ _ _ _ _ _ c.requires _ _ c.loop-x.invariant _ p _ c.stores_one.ensures w.if-stores_one.false)
    ]

pub returns : goal.returns
returns c = laws.stored-end _ _ _ _ _ _ c.requires _ _ (end-taken _ _ _ (omega (arith, c.requires.most)) c.loop-x.auto.x-index-end c.loop-x-test.false) c.loop-x.invariant
