use mathlib.Core.Path.{◌≡◌}
use lib.Seq.{sets}
use Rattle.protocol.specs.Lists.{list_of}
use Rattle.pekdrav.proofs.Told.{word_in}
use Rattle.pekdrav.proofs.shown.tell.Given as goal

abbrev pub invariant-loop-i : goal.invariant-loop-i
invariant-loop-i l = l.out ≡ sets l.initial.out l.from (list_of l.i (word_in l.views l.n))
