use Rattle.views.proofs.Held.{view-test}
use Rattle.views.proofs.View.is_view.Goals as goal

pub returns : goal.returns
returns c = view-test _ _ _ c.joined_set.ensures.0 c.joined_set.ensures.1 c.left_set-left.ensures.0 c.left_set-left.ensures.1
