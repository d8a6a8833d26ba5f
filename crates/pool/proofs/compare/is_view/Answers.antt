use native.Mathlib.Omega.{arith}
use Rattle.views.proofs.Views.{view-eqb}
use Rattle.pool.proofs.compare.is_view.Goals as goal

pub returns : goal.returns
returns c = view-eqb _ _ _ c.narrow.ensures (omega arith) (omega arith)
