use mathlib.Core.List.{[]}
use Rattle.evidence.proofs.Reporting as laws
use Rattle.evidence.proofs.reports.Basis.binding_holds.Goals as goal

pub returns-then-has : goal.returns-then-has
returns-then-has c = laws.binding-barred _ _ _ _ [] _ c.barred.ensures c.has.ensures _ c.if-has.true c.is_twofold.ensures

pub returns-then-has-2 : goal.returns-then-has-2
returns-then-has-2 c = laws.binding-bound _ _ _ _ [] _ c.barred.ensures c.has.ensures c.if-has.false c.bound.ensures c.has-else-has.ensures _ _ c.if-has-2.true c.told_payload.ensures c.is_listed.ensures

pub returns-else-has-2 : goal.returns-else-has-2
returns-else-has-2 c = laws.binding-free _ _ _ _ [] _ c.barred.ensures c.has.ensures c.if-has.false c.bound.ensures c.has-else-has.ensures c.if-has-2.false
