use Rattle.host.proofs.Loading.{word_back}
use Rattle.host.proofs.held.word_of.Goals as goal

pub returns : goal.returns
returns c = word_back _ _ c.of_halves.ensures
