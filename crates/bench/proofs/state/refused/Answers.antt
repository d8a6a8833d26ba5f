use Rattle.bench.proofs.States.{told-as}
use Rattle.bench.proofs.state.refused.Goals as goal

pub returns : goal.returns
returns c = told-as c.refused.ensures c.told.ensures
