use native.Mathlib.Omega.{arith}
use Rattle.pool.proofs.Lists.{emptied}
use Rattle.pool.proofs.listed.record_clear.Goals as goal

pub returns : goal.returns
returns c = emptied _ (omega arith)
