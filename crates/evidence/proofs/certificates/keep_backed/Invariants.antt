use Rattle.evidence.proofs.Kept as laws
use Rattle.evidence.proofs.certificates.keep_backed.Given as goal

abbrev pub invariant-loop-g : goal.invariant-loop-g
invariant-loop-g l = laws.KeptTo l.words l.ids l.init l.initial.groups l.groups l.n l.g
