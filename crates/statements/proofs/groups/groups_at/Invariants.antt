use Rattle.statements.proofs.GroupLaws.{Groups}
use Rattle.statements.proofs.groups.groups_at.Given as goal

abbrev pub invariant-loop-j : goal.invariant-loop-j
invariant-loop-j l = Groups l.s l.n l.from l.block l.at l.j
