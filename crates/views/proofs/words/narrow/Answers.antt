use Rattle.views.proofs.Views.{narrow-is}
use Rattle.views.proofs.words.narrow.Goals as goal

pub returns : goal.returns
returns c = narrow-is _
