use Rattle.host.proofs.Loading.{word_held}
use Rattle.host.proofs.held.view_in.Goals as goal

pub returns : goal.returns
returns c = word_held _ c.low_half.ensures c.high_half.ensures
