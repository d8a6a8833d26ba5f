use Prim.Native.Nat.{◌-◌}
use lib.ListN.{length}
use Rattle.bench.specs.Running.{bench_is, BenchKept, Fulls, Turnings, RunSoFar}
use Rattle.bench.proofs.lines.run_lines.Given as goal

abbrev pub invariant-loop-place : goal.invariant-loop-place
invariant-loop-place l = BenchKept l.words l.seats l.records × RunSoFar l.schedule l.place (bench_is l.place.setting l.words l.seats l.records) l.initial.rows l.rows × Fulls l.records l.full × Turnings l.words l.seats l.records l.turns

abbrev pub decreases-loop-place : goal.decreases-loop-place
decreases-loop-place l = length l.schedule - l.place.at
