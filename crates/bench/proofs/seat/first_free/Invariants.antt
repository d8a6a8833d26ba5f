use Rattle.bench.specs.Seats.{Marked}
use Rattle.bench.proofs.seat.first_free.Given as goal

abbrev pub invariant-loop-i : goal.invariant-loop-i
invariant-loop-i l = Marked l.marks l.from l.i
