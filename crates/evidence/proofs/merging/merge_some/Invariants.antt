use lib.ListN.{get_or}
use Rattle.evidence.proofs.Merges as laws
use Rattle.evidence.proofs.merging.merge_some.Given as goal

abbrev pub invariant-loop-j : goal.invariant-loop-j
invariant-loop-j l = laws.MergedTo l.words l.listed (get_or l.listed 512 0) l.initial.all l.all l.j
