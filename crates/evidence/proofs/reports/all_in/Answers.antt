use native.Mathlib.Omega.{arith}
use Rattle.pool.proofs.Laws.{held_first, held_next, held-not, held_all}
use Rattle.evidence.proofs.reports.all_in.Goals as goal

pub loop-p-init : goal.loop-p-init
loop-p-init c = held_first _ _ _

pub returns-then-not-is_in_near : goal.returns-then-not-is_in_near
returns-then-not-is_in_near c = held-not _ _ _ _ _ c.nth.ensures c.is_in_near.ensures _ c.count-p-end.ensures.0 c.loop-p-test.true c.if-not-is_in_near.true

pub loop-p-preserved : goal.loop-p-preserved
loop-p-preserved c = held_next _ _ _ _ _ c.nth.ensures c.is_in_near.ensures c.loop-p.invariant c.if-not-is_in_near.false

pub returns : goal.returns
returns c = held_all _ _ _ _ (omega (arith, c.count-p-end.ensures.0)) c.loop-p.invariant
