use lib.ListN.{get_or}
use Rattle.evidence.specs.Notices.{senders_of}
use Rattle.evidence.proofs.Acked as laws
use Rattle.evidence.proofs.certificates.certify.Given as goal

abbrev pub invariant-loop-x : goal.invariant-loop-x
invariant-loop-x l = laws.Gathered l.words l.ids (get_or l.ids 512 0) (senders_of l.senders l.count) l.groups l.n l.x-index l.some l.certs
