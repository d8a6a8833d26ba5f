use Rattle.ranking.proofs.Summits.{bytes-marked}
use Rattle.ranking.proofs.histories.climb.Goals as goal

pub returns : goal.returns
returns c = λ X marked. c.greatest_history.ensures X (bytes-marked _ X _ _ _ _ marked)
