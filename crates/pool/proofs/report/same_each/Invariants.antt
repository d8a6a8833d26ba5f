use mathlib.Core.Path.{◌≡◌}
use Rattle.protocol.specs.Lists.{list_of}
use Rattle.statements.specs.Block.{group_at}
use Rattle.pool.specs.Pool.{told_at}
use Rattle.pool.proofs.report.same_each.Given as goal

abbrev pub invariant-loop-j : goal.invariant-loop-j
invariant-loop-j l = list_of l.j (group_at l.block) ≡ list_of l.j (told_at l.words l.n)
