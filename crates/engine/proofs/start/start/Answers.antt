use native.Mathlib.Omega.{arith}
use Rattle.engine.proofs.Requests.{start_is}
use Rattle.engine.proofs.start.start.Goals as goal

pub returns : goal.returns
returns c = start_is _ _ _ _ _ _ c.new.ensures (omega arith) c.requires c.entered_first.ensures
