use native.Mathlib.Omega.{arith}
use Rattle.evidence.proofs.Reporting as laws
use Rattle.evidence.proofs.reports.Basis.all_hold.Goals as goal

pub returns-then-tells_nothing : goal.returns-then-tells_nothing
returns-then-tells_nothing c = laws.hold-nothing _ _ _ _ _ (c.tells_nothing.ensures c.if-tells_nothing.true)

pub loop-j-init : goal.loop-j-init
loop-j-init c = laws.hold-first _ _ _ _ _

pub returns-then-not-told_holds : goal.returns-then-not-told_holds
returns-then-not-told_holds c = laws.hold-not _ _ _ _ _ c.told_count.ensures.0 c.min-j-end.ensures c.loop-j-test.true c.told_holds.ensures c.if-not-told_holds.true

pub loop-j-preserved : goal.loop-j-preserved
loop-j-preserved c = laws.hold-next _ _ _ _ _ c.told_count.ensures.0 c.min-j-end.ensures c.loop-j-test.true c.told_holds.ensures c.if-not-told_holds.false c.loop-j.invariant

pub returns : goal.returns
returns c = laws.hold-all _ _ _ _ _ c.told_count.ensures.0 c.min-j-end.ensures (omega arith) c.loop-j.invariant
