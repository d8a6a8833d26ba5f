use native.Mathlib.Omega.{arith}
use Rattle.tables.proofs.Writes.{numbered}
use Rattle.tables.proofs.rows.set_number.Goals as goal

pub returns : goal.returns
returns c = numbered _ _ _ _ (omega arith) c.requires.0 c.requires.1
