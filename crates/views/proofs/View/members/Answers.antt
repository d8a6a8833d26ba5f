use Rattle.views.proofs.Held.{members-are}
use Rattle.views.proofs.View.members.Goals as goal

pub returns : goal.returns
returns c = members-are _ _ _ c.joined_set-joined.ensures.0 c.joined_set-joined.ensures.1 c.left_set.ensures.0
