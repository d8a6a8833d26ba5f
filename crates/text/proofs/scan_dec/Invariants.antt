-- `text::scan_dec` meets its contract. The loop's invariant: what is still to be scanned, from the number so far, is what the whole scan finds. Assumes nothing.
use Prim.Native.Nat.{◌≤◌, max}
use mathlib.Core.Path.{◌≡◌}
use lib.ListN.{length, drop}
use Rattle.text.specs.Scan.{scan_dec}
use Rattle.text.proofs.scan_dec.Given as goal

abbrev pub invariant-loop-next : goal.invariant-loop-next
invariant-loop-next l = (l.next ≤ max l.from (length l.s)) × (scan_dec l.start l.from (drop l.from l.s) ≡ scan_dec l.value l.next (drop l.next l.s))
