use mathlib.Core.Path.{refl, ◌∙◌}
use Rattle.views.proofs.Views.{view_in_lem}
use Rattle.views.proofs.Tallies.{unsigned_is}
use Rattle.views.proofs.tally.unsigned.Goals as goal

pub returns : goal.returns
returns c = unsigned_is _ _ (c.of_word-v.ensures ∙ view_in_lem _) _ _ _ _ _ c.needed.ensures c.members.ensures c.requires.0 refl
