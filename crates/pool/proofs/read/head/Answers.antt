use Rattle.pool.proofs.Searches.{head_at_lem}
use Rattle.pool.proofs.read.head.Goals as goal

pub returns : goal.returns
returns c = head_at_lem _ _ _ c.head_word.ensures
