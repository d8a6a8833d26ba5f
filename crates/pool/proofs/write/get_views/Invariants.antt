use mathlib.Core.Path.{◌≡◌}
use lib.ListN.{length}
use Rattle.protocol.specs.Lists.{list_of}
use Rattle.views.specs.Held.{held_at}
use Rattle.pool.specs.Pool.{view_at}
use Rattle.pool.proofs.write.get_views.Given as goal

abbrev pub invariant-loop-p : goal.invariant-loop-p
invariant-loop-p l = (length l.views ≡ 16) × (list_of l.p (held_at l.views) ≡ list_of l.p (view_at l.words l.n))
