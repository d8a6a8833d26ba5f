use Rattle.views.proofs.Tallies.{needed-most}
use Rattle.views.proofs.tally.needed.Goals as goal

pub returns : goal.returns
returns c = needed-most _ _ c.quorum.ensures c.max.ensures
