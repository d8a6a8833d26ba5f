use native.Mathlib.Omega.{arith}
use Rattle.pool.proofs.Searches.{other-is}
use Rattle.pool.proofs.seek.is_other.Goals as goal

pub returns : goal.returns
returns c = other-is _ _ _ _ _ c.head.ensures c.at.ensures (omega arith) (omega arith)
