use native.Mathlib.Omega.{arith}
use Rattle.bench.proofs.Ends.{after-nobody, after-named}
use Rattle.bench.proofs.lines.after.Goals as goal

pub returns-then-seat-ge-SEATS : goal.returns-then-seat-ge-SEATS
returns-then-seat-ge-SEATS c = after-nobody c.run_with-e.ensures (omega (arith, c.if-seat-ge-SEATS.true)) c.new.ensures (c.record_clear.ensures.none _)

pub returns : goal.returns
returns c = after-named c.run_with-e.ensures (omega (arith, c.if-seat-ge-SEATS.false))
