use mathlib.Core.Path.{◌∙◌}
use Rattle.evidence.proofs.Behind.{acked-behind}
use Rattle.evidence.proofs.signers.acked_by.Goals as goal

pub returns : goal.returns
returns c = c.signers.ensures ∙ acked-behind _ _ _ _
