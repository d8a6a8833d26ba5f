use mathlib.Core.Path.{◌∙◌}
use Rattle.statements.proofs.Fields.{view-wrote}
use Rattle.statements.proofs.put_view.Goals as goal

pub returns : goal.returns
returns c = view-wrote c.args.v _ _ (c.from.ensures ∙ c.joined_set.ensures.0) (c.from-2.ensures ∙ c.left_set.ensures.0) c.write_hex.ensures
