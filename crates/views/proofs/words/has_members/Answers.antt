use mathlib.Core.Path.{ap, ◌∙◌}
use Rattle.protocol.specs.View.{has_members}
use Rattle.views.proofs.Views.{members-in}
use Rattle.views.proofs.words.has_members.Goals as goal

pub returns : goal.returns
returns c = c.has_members.ensures ∙ ap (has_members 16) c.of_word.ensures ∙ members-in _
