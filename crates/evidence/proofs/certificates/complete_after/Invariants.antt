use lib.ListN.{get_or}
use Rattle.evidence.proofs.Completed as laws
use Rattle.evidence.specs.Shown.{BackedIn}
use Rattle.evidence.proofs.certificates.complete_after.Given as goal

abbrev pub invariant-loop-x : goal.invariant-loop-x
invariant-loop-x l = ((b : BackedIn l.words l.ids l.init l.groups l.n) → laws.LeastTo l.words l.ids (get_or l.ids 512 0) l.init l.groups l.n b l.j l.m l.x-index l.least)
