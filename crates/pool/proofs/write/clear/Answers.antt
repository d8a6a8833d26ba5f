use native.Mathlib.Omega.{arith}
use Rattle.pool.proofs.Searches.{cleared}
use Rattle.pool.proofs.write.clear.Goals as goal

pub returns : goal.returns
returns c = cleared _ (omega arith)
