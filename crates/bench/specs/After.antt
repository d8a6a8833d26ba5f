-- The bench after the last line of a schedule, and one controller of it with its record.
-- Assumes nothing.
use Rattle.std.specs.Prelude.{◌≡◌, ◌||◌, List, [], ◌∷◌, ℕ, ◌≤◌, eqb, ltb, length, if◌then◌else◌}
use Rattle.std.proofs.Math.Option.{Option}
use Rattle.pool.specs.Pool.{record_in}
use Rattle.engine.specs.declared.Controller.{Controller}
use Rattle.engine.specs.Meaning.{controller_is}
use Rattle.schedule.specs.Line.{Line, lines}
use Rattle.bench.specs.Bench.{Bench, new_bench, step, seat}
use Rattle.bench.specs.Rows.{ReadAll}

-- The bench b after these lines, one after the other.
unfoldable pub bench_after : Bench → List (Option Line) → Bench
bench_after b [] = b
bench_after b (l ∷ L) = bench_after (step b l).bench L

-- The bench after a schedule that reads so. An empty or too long schedule is not run.
unfoldable pub last_bench : List ℕ → List (Option Line) → Bench
last_bench schedule reading = if eqb (length schedule) 0 || ltb 65536 (length schedule) then new_bench else bench_after new_bench reading

-- c is controller k after the last line of the schedule, and the memory ids is its record over the pool's memory W. A schedule that is too long is not read.
-- No bench has a controller above 15: for such a k, c is not set up and its record is empty.
pub record SeatAfter (schedule : List ℕ) (k : ℕ) (c : Controller) (W ids : List ℕ) : Type 0 where
  pub reading : List (Option Line)
  pub reads : length schedule ≤ 65536 → ReadAll new_bench (lines schedule) reading
  pub controller : controller_is c ≡ (seat (last_bench schedule reading) k).controller
  pub statements : record_in W ids ≡ (seat (last_bench schedule reading) k).statements
