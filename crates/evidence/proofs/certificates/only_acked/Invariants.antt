use Rattle.evidence.proofs.Acked as laws
use Rattle.evidence.proofs.certificates.only_acked.Given as goal

abbrev pub invariant-loop-x : goal.invariant-loop-x
invariant-loop-x l = laws.AckedAt l.words l.ids l.groups l.n l.x-index l.one
