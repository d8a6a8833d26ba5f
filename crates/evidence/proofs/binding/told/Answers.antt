use Rattle.evidence.proofs.Merges as laws
use Rattle.evidence.proofs.binding.told.Goals as goal

pub returns-then-told_count-j : goal.returns-then-told_count-j
returns-then-told_count-j c = laws.told_none _ _ _ _ c.told_count.ensures.0 c.if-told_count-j.true

pub returns-then-has : goal.returns-then-has
returns-then-has c = laws.told-as-barred _ _ _ _ c.told_count.ensures.0 c.if-told_count-j.false c.barred.ensures c.has.ensures c.if-has.true

pub returns-then-has-2 : goal.returns-then-has-2
returns-then-has-2 c = laws.told-as-bound _ _ _ _ c.told_count.ensures.0 c.if-told_count-j.false c.barred.ensures c.has.ensures c.if-has.false c.bound.ensures c.has-2.ensures _ c.if-has-2.true c.told_payload.ensures

pub returns : goal.returns
returns c = laws.told-as-free _ _ _ _ c.told_count.ensures.0 c.if-told_count-j.false c.barred.ensures c.has.ensures c.if-has.false c.bound.ensures c.has-2.ensures c.if-has-2.false
