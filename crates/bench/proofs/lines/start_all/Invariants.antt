use Rattle.bench.specs.Seats.{setup_in}
use Rattle.bench.proofs.Starts.{StartedTo}
use Rattle.bench.proofs.lines.start_all.Given as goal

abbrev pub invariant-loop-k : goal.invariant-loop-k
invariant-loop-k l = StartedTo (setup_in l.fn.g l.senders l.windows) l.k l.seats l.records
