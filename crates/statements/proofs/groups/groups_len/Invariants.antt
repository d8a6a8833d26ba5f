use Prim.Native.Nat.{◌≤◌, ◌*◌}
use mathlib.Core.Path.{◌≡◌}
use lib.ListN.{length}
use Rattle.protocol.specs.Lists.{list_of}
use Rattle.statements.specs.Block.{group_at}
use Rattle.statements.specs.Parts.{groups_text}
use Rattle.statements.proofs.groups.groups_len.Given as goal

abbrev pub invariant-loop-j : goal.invariant-loop-j
invariant-loop-j l = (l.size ≡ length (groups_text (list_of l.j (group_at l.block)))) × (l.size ≤ 46 * l.j)
