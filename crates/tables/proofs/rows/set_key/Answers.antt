use native.Mathlib.Omega.{arith}
use Rattle.tables.proofs.Writes.{keyed}
use Rattle.tables.proofs.rows.set_key.Goals as goal

pub returns : goal.returns
returns c = keyed _ _ _ _ (omega arith) c.requires.0 c.requires.1
