use Rattle.engine.proofs.Requests.{new_is}
use Rattle.engine.proofs.Controller.new.Goals as goal

pub returns : goal.returns
returns c = new_is _ c.new.ensures.0
