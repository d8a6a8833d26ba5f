use mathlib.Core.Path.{◌≡◌}
use mathlib.Core.Bool.{true}
use Rattle.std.specs.Prelude.{is_some, unwrap_or}
use Rattle.ranking.specs.Slots.{history_scale, start_scale, Chain}
use Rattle.ranking.proofs.histories.link_lengths.Given as goal

abbrev pub invariant-loop-k : goal.invariant-loop-k
invariant-loop-k l = Chain (history_scale l.words) l.slots l.k (is_some l.last) (unwrap_or l.last 0) × (l.steady ≡ true → Chain (start_scale l.words) l.slots l.k (is_some l.last) (unwrap_or l.last 0))
