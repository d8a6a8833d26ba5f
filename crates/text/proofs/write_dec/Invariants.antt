-- `text::write_dec` meets its contract. The loop's invariant: the digits stored are the end of the number's text, and those of what is left go before them. Assumes nothing.
use Prim.Native.Nat.{◌≤◌}
use lib.ListN.{length}
use Rattle.text.proofs.Stores.{Left}
use Rattle.text.proofs.write_dec.Given as goal

abbrev pub invariant-loop-x : goal.invariant-loop-x
invariant-loop-x l = (l.i ≤ length l.out) × Left l.initial.out l.at l.v l.out l.i l.x

abbrev pub decreases-loop-x : goal.decreases-loop-x
decreases-loop-x l = l.x
