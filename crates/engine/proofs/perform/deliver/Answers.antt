use native.Mathlib.Omega.{arith}
use mathlib.Core.Path.{refl}
use Rattle.engine.proofs.Performs.{delivering}
use Rattle.engine.proofs.perform.deliver.Goals as goal

pub returns : goal.returns
returns c = (refl, delivering c.args.c _ _ c.with_notice.ensures (omega arith) (omega arith) c.requires)
