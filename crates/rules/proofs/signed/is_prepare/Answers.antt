use mathlib.Core.Path.{◌∙◌}
use Rattle.rules.proofs.Scans.{prepare-not, prepare-is}
use Rattle.rules.proofs.signed.is_prepare.Goals as goal

pub returns-then-is_own : goal.returns-then-is_own
returns-then-is_own c = prepare-is _ _ _ _ c.is_own.ensures _ c.if-is_own.true c.notice.ensures.0

pub returns-else-is_own : goal.returns-else-is_own
returns-else-is_own c = c.if-is_own.false ∙ prepare-not _ _ _ _ c.is_own.ensures c.if-is_own.false
