use Rattle.views.proofs.Held.{word-is}
use Rattle.views.proofs.View.word.Goals as goal

pub returns : goal.returns
returns c = word-is _ _ _ c.of_halves.ensures c.narrow.ensures
