-- The service screen of a controller after the last line of a schedule.
-- Assumes nothing.
use Rattle.std.specs.Prelude.{◌≡◌, List, ℕ, ◌≤◌, ◌<◌, length}
use Rattle.std.proofs.Math.Option.{Option}
use Rattle.schedule.specs.Line.{Line, lines}
use Rattle.bench.specs.Bench.{new_bench, seat}
use Rattle.bench.specs.Rows.{ReadAll}
use Rattle.bench.specs.After.{last_bench}
use Rattle.service.specs.Service.{ServiceShows}

-- n was answered for the memory out, which holds `after` then: it is the screen of controller k on the bench that the schedule left, by its one reading (`read-all-one` in crates/bench);
-- above 15 there is no controller, n is 0 and all is as before.
pub record ScreenAfter (schedule : List ℕ) (k : ℕ) (out : List ℕ) (n : ℕ) (after : List ℕ) : Type 0 where
  pub shows : k < 16
      → (reading : List (Option Line)) × (length schedule ≤ 65536 → ReadAll new_bench (lines schedule) reading)
      × ServiceShows (seat (last_bench schedule reading) k).controller (seat (last_bench schedule reading) k).statements out n after
  pub nobody : 16 ≤ k → (n ≡ 0) × (after ≡ out)
