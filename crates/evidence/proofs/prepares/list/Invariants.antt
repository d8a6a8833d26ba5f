use Rattle.evidence.specs.Notices.{senders_of}
use Rattle.evidence.proofs.Payloads as laws
use Rattle.evidence.proofs.prepares.list.Given as goal

abbrev pub invariant-loop-s : goal.invariant-loop-s
invariant-loop-s l = laws.ListedTo l.words l.ids (senders_of l.senders l.count) l.keys l.rows l.n l.s-index
