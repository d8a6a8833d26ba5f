use native.Mathlib.Omega.{arith}
use mathlib.Core.Path.{◌∙◌}
use Rattle.views.proofs.Views.{view-eqb}
use Rattle.rules.proofs.Scans.{at-not, at-is}
use Rattle.rules.proofs.signed.is_own_at.Goals as goal

pub returns-then-is_own : goal.returns-then-is_own
returns-then-is_own c = at-is _ _ _ _ _ c.is_own.ensures _ c.if-is_own.true (view-eqb _ _ _ c.at.ensures (omega arith) (omega arith))

pub returns-else-is_own : goal.returns-else-is_own
returns-else-is_own c = c.if-is_own.false ∙ at-not _ _ _ _ _ c.is_own.ensures c.if-is_own.false
