use mathlib.Core.Path.{◌∙◌}
use Rattle.votes.proofs.Alike.{slot_is}
use Rattle.votes.proofs.keys.slot_of.Goals as goal

pub returns : goal.returns
returns c = (c.slot_from.ensures.0 ∙ slot_is _ _ _ _ _ c.fold.ensures.0 c.fold-y.ensures.0, c.slot_from.ensures.1)
