use mathlib.Core.Path.{◌≡◌}
use lib.Seq.{sets}
use Rattle.protocol.specs.Lists.{list_of}
use Rattle.statements.specs.Block.{group_at}
use Rattle.pool.specs.Changes.{told_words}
use Rattle.pool.proofs.report.put_pairs.Given as goal

abbrev pub invariant-loop-j : goal.invariant-loop-j
invariant-loop-j l = l.words ≡ sets l.initial.words l.s (told_words (list_of l.j (group_at l.block)))
