use Prim.Native.Nat.{◌-◌, ◌≤◌}
use Rattle.bench.specs.Seats.{RecordFilled}
use Rattle.bench.proofs.seat.fill.Given as goal

abbrev pub invariant-loop-free : goal.invariant-loop-free
invariant-loop-free l = (l.from ≤ l.n) × RecordFilled l.initial.ids l.marks l.from l.ids

abbrev pub decreases-loop-free : goal.decreases-loop-free
decreases-loop-free l = l.n - l.from
