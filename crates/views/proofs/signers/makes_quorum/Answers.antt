use mathlib.Core.Path.{refl, ◌∙◌}
use Rattle.views.proofs.Signing.{quorum-none, quorum-some}
use Rattle.views.proofs.signers.makes_quorum.Goals as goal

pub returns-then-has_members : goal.returns-then-has_members
returns-then-has_members c = quorum-some _ _ _ c.of_word-w.ensures _ c.has_members.ensures c.if-has_members.true _ _ c.quorum.ensures refl

pub returns-else-has_members : goal.returns-else-has_members
returns-else-has_members c = c.if-has_members.false ∙ quorum-none _ _ _ c.of_word-w.ensures _ c.has_members.ensures c.if-has_members.false
