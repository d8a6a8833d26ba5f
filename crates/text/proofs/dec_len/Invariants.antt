-- `text::dec_len` meets its contract. The loop's invariant: the digits counted and those of what is left are the number's. Assumes nothing.
use mathlib.Core.Path.{◌≡◌}
use Prim.Native.Nat.{◌+◌, ◌<◌}
use lib.ListN.{length}
use Rattle.text.specs.Text.{dec_text}
use Rattle.text.proofs.dec_len.Given as goal

abbrev pub invariant-loop-x : goal.invariant-loop-x
invariant-loop-x l = (length (dec_text l.v) ≡ l.n + length (dec_text l.x)) × (l.x < 18446744073709551616)

abbrev pub decreases-loop-x : goal.decreases-loop-x
decreases-loop-x l = l.x
