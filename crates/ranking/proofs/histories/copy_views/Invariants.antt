use mathlib.Core.Path.{◌≡◌}
use lib.ListN.{length}
use Rattle.protocol.specs.Lists.{list_of}
use Rattle.pool.specs.Pool.{view_at}
use Rattle.views.specs.View.{views_of}
use Rattle.ranking.proofs.histories.copy_views.Given as goal

abbrev pub invariant-loop-p : goal.invariant-loop-p
invariant-loop-p l = (length l.out ≡ 16) × (views_of l.out l.p ≡ list_of l.p (view_at l.words l.n))
