-- `text::read_hex` meets its contract. The loop's invariant: what is still to be scanned, from the value so far, is what the whole scan finds, and the value fits the digits that are read. Assumes nothing.
use Prim.Native.Nat.{◌-◌, ◌^◌, ◌<◌}
use mathlib.Core.Path.{◌≡◌}
use lib.ListN.{drop}
use Rattle.text.specs.Scan.{scan_hex}
use Rattle.text.proofs.read_hex.Given as goal

abbrev pub invariant-loop-i : goal.invariant-loop-i
invariant-loop-i l = (l.value < 16 ^ (l.i - l.at)) × (scan_hex l.digits 0 l.at (drop l.at l.s) ≡ scan_hex (l.next - l.i) l.value l.i (drop l.i l.s))
