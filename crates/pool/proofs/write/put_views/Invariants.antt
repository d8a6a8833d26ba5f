use mathlib.Core.Path.{◌≡◌}
use lib.Seq.{sets}
use Rattle.protocol.specs.Lists.{list_of}
use Rattle.pool.proofs.Writes.{held_word}
use Rattle.pool.proofs.write.put_views.Given as goal

abbrev pub invariant-loop-p : goal.invariant-loop-p
invariant-loop-p l = l.words ≡ sets l.initial.words l.s (list_of l.p (held_word l.h.views))
