use Rattle.statements.proofs.GroupLaws.{groups-first, groups-empty, groups-next, groups-refused, groups-all}
use Rattle.statements.proofs.groups.groups_at.Goals as goal

pub loop-j-init : goal.loop-j-init
loop-j-init c = groups-first _ _ _ _ c.requires c.clear.ensures

pub loop-j-preserved-then-nothing_at : goal.loop-j-preserved-then-nothing_at
loop-j-preserved-then-nothing_at c = groups-empty _ _ _ _ _ _ c.loop-j.invariant c.loop-j-test.true _ c.nothing_at.ensures c.if-nothing_at.true

pub returns-in_err-group : goal.returns-in_err-group
returns-in_err-group c = rw c.from_residual.ensures (groups-refused _ _ _ _ _ _ c.loop-j.invariant c.loop-j-test.true c.in_err-group.ensures)

pub loop-j-preserved : goal.loop-j-preserved
loop-j-preserved c = groups-next _ _ _ _ _ _ c.loop-j.invariant c.loop-j-test.true _ c.in_ok-group.group.value _ c.in_ok-group.ensures c.tell.ensures

pub returns : goal.returns
returns c = groups-all _ _ _ _ _ _ c.loop-j.invariant c.loop-j-test.false
