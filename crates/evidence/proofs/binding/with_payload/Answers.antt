use Rattle.evidence.proofs.Merges as laws
use Rattle.evidence.proofs.binding.with_payload.Goals as goal

pub returns-in-Unbound : goal.returns-in-Unbound
returns-in-Unbound c = laws.merge-payload _ _ c.in-Unbound.is

pub returns-in-Barred : goal.returns-in-Barred
returns-in-Barred c = laws.merge-barred _ _ c.in-Barred.is

pub returns-in-Bound : goal.returns-in-Bound
returns-in-Bound c = laws.merge-same _ _ _ c.in-Bound.is c.if-m-n.true

pub returns-in-Bound-2 : goal.returns-in-Bound-2
returns-in-Bound-2 c = laws.merge-other _ _ _ c.in-Bound.is c.if-m-n.false
