use Rattle.text.specs.Written.{Wrote}
use Rattle.protocol.specs.Lists.{list_of}
use Rattle.statements.specs.Block.{group_at}
use Rattle.statements.specs.Parts.{groups_text}
use Rattle.statements.proofs.groups.put_groups.Given as goal

abbrev pub invariant-loop-j : goal.invariant-loop-j
invariant-loop-j l = Wrote l.initial.out l.from (groups_text (list_of l.j (group_at l.block))) l.at l.out
