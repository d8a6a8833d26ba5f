use Prim.Native.Nat.{◌-◌, ◌≤◌}
use Rattle.bench.specs.Seats.{Marked}
use Rattle.bench.proofs.seat.skip_eights.Given as goal

abbrev pub invariant-loop-i : goal.invariant-loop-i
invariant-loop-i l = (l.from ≤ l.i) × (l.i ≤ l.n) × Marked l.marks l.from l.i

abbrev pub decreases-loop-i : goal.decreases-loop-i
decreases-loop-i l = l.n - l.i
