use Rattle.evidence.proofs.Acked as laws
use Rattle.evidence.proofs.certificates.stored.Given as goal

abbrev pub invariant-loop-x : goal.invariant-loop-x
invariant-loop-x l = laws.StoredTo l.words l.ids l.groups l.n l.some l.certs l.x-index l.seen
