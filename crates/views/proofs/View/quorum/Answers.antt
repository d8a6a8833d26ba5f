use Rattle.std.proofs.Common.{rules}
use Rattle.protocol.specs.View.{quorum}
use Rattle.views.proofs.View.quorum.Goals as goal

pub returns : goal.returns
unfolding quorum
returns c = search rules
