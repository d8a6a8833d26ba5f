use Rattle.views.proofs.Held.{of-word-is}
use Rattle.views.proofs.View.of_word.Goals as goal

pub returns : goal.returns
returns c = of-word-is _ _ _ c.low_half.ensures c.high_half.ensures
