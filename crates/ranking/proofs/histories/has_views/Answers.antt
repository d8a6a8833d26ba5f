use native.Mathlib.Omega.{arith}
use borrow.Author.Tests.{not-true, not-false}
use Rattle.pool.proofs.Laws.{held_first, held_next, held-not, held_all}
use Rattle.ranking.proofs.histories.has_views.Goals as goal

pub loop-p-init : goal.loop-p-init
loop-p-init c = held_first _ _ _

pub returns-then-not-has_view : goal.returns-then-not-has_view
returns-then-not-has_view c = held-not _ _ _ _ _ c.nth.ensures c.has_view.ensures _ c.count-p-end.ensures.0 c.loop-p-test.true (not-true _ c.if-not-has_view.true-raw)

pub loop-p-preserved : goal.loop-p-preserved
loop-p-preserved c = held_next _ _ _ _ _ c.nth.ensures c.has_view.ensures c.loop-p.invariant (not-false _ c.if-not-has_view.false-raw)

pub returns : goal.returns
returns c = held_all _ _ _ _ (omega (arith, c.count-p-end.ensures.0)) c.loop-p.invariant
