use mathlib.Core.Path.{◌∙◌}
use Rattle.evidence.proofs.Behind.{stored-behind}
use Rattle.evidence.proofs.signers.stored_by.Goals as goal

pub returns : goal.returns
returns c = c.signers.ensures ∙ stored-behind _ _ _ _
