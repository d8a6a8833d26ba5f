use Rattle.std.specs.Prelude.{is_some, unwrap_or}
use Rattle.ranking.specs.Slots.{view_scale, Chain}
use Rattle.ranking.proofs.candidates.compare_slots.Given as goal

abbrev pub invariant-loop-k : goal.invariant-loop-k
invariant-loop-k l = Chain view_scale l.slots l.k (is_some l.last) (unwrap_or l.last 0)
