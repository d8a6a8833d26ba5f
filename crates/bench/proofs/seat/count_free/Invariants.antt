use mathlib.Core.Path.{◌≡◌}
use Prim.Native.Nat.{◌-◌, ◌≤◌}
use lib.ListN.{length}
use Rattle.bench.specs.Seats.{unmarked}
use Rattle.bench.proofs.seat.count_free.Given as goal

abbrev pub invariant-loop-free : goal.invariant-loop-free
invariant-loop-free l = (l.from ≤ l.n) × (l.count ≤ l.from) × (l.count ≡ length (unmarked l.marks l.from))

abbrev pub decreases-loop-free : goal.decreases-loop-free
decreases-loop-free l = l.n - l.from
