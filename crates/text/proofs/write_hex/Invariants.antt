-- `text::write_hex` meets its contract. The loop's invariant: the digits stored are the end of the set's text, and those of what is left go before them. Assumes nothing.
use Prim.Native.Nat.{◌≤◌}
use Rattle.text.proofs.Stores.{HexLeft}
use Rattle.text.proofs.write_hex.Given as goal

abbrev pub invariant-loop-i : goal.invariant-loop-i
invariant-loop-i l = (l.at ≤ l.i) × HexLeft l.initial.out l.at l.v l.digits l.out l.i l.x
