use native.Mathlib.Omega.{arith}
use borrow.Author.Tests.{not-true, not-false}
use Rattle.pool.proofs.Reports.{groups-all, groups-differ, groups_none, groups-more, tested, untested}
use Rattle.pool.proofs.report.same_each.Goals as goal

pub loop-j-init : goal.loop-j-init
loop-j-init c = groups_none _ _

pub returns-then-not-same_told : goal.returns-then-not-same_told
returns-then-not-same_told c = groups-differ _ _ _ _ c.loop-j-test.true (untested _ c.same_told.ensures c.told_at.ensures c.told.ensures (not-true _ c.if-not-same_told.true-raw))

pub loop-j-preserved : goal.loop-j-preserved
loop-j-preserved c = groups-more _ _ _ c.loop-j.invariant (tested _ c.same_told.ensures c.told_at.ensures c.told.ensures (not-false _ c.if-not-same_told.false-raw))

pub returns : goal.returns
returns c = groups-all _ _ _ c.loop-j.j (omega arith) c.loop-j.invariant
