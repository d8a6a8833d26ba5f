use mathlib.Core.Path.{◌≡◌}
use Rattle.protocol.specs.Lists.{list_of}
use Rattle.pool.specs.Pool.{view_at}
use Rattle.ranking.proofs.histories.starts_with.Given as goal

abbrev pub invariant-loop-p : goal.invariant-loop-p
invariant-loop-p l = (list_of l.p (view_at l.words l.i) ≡ list_of l.p (view_at l.words l.j))
