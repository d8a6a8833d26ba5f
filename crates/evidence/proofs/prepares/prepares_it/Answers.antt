use Rattle.evidence.proofs.Payloads as laws
use Rattle.evidence.proofs.prepares.prepares_it.Goals as goal

pub returns-then-is_prepare_of : goal.returns-then-is_prepare_of
returns-then-is_prepare_of c = laws.prepares-payload _ _ _ _ _ _ _ c.is_prepare_of.ensures c.if-is_prepare_of.true c.payload.ensures
