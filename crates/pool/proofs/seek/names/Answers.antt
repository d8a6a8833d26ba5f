use native.Mathlib.Omega.{arith}
use Rattle.views.proofs.Views.{view-eqb}
use Rattle.pool.proofs.seek.names.Goals as goal

pub returns : goal.returns
returns c = view-eqb _ _ _ c.view.ensures (omega arith) (omega arith)
