use lib.ListN.{get_or}
use Rattle.statements.specs.Kind.{kind_number}
use Rattle.evidence.specs.Shown.{BackedIn}
use Rattle.evidence.specs.Casts.{Late, top_is}
use Rattle.evidence.proofs.Behind as laws
use Rattle.evidence.proofs.signers.least_top.Given as goal

abbrev pub invariant-loop-x : goal.invariant-loop-x
invariant-loop-x l = ((b : BackedIn l.words l.ids l.init l.groups l.n) (late : Late (kind_number l.kind)) → laws.TopTo l.words l.ids (get_or l.ids 512 0) l.init l.groups l.n b (kind_number l.kind) late l.j l.m l.x-index (top_is l.least))
