use native.Mathlib.Omega.{arith}
use Rattle.evidence.proofs.Senders.{senders-most}
use Rattle.evidence.proofs.Acked as laws
use Rattle.evidence.proofs.certificates.certificates.Goals as goal

pub returns-in-Nothing : goal.returns-in-Nothing
returns-in-Nothing c = laws.only_none _ _ _ _ _ _ c.requires _ _ c.in-Nothing.ensures

pub returns-in-One : goal.returns-in-One
returns-in-One c = laws.only-prepared _ _ _ _ _ _ c.requires _ c.in-One.ensures (senders-most _ _) _ _ (omega arith) c.certify_one-some.ensures
