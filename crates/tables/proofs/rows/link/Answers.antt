use native.Mathlib.Omega.{arith}
use mathlib.Core.Path.{refl}
use Rattle.tables.proofs.Writes.{linked}
use Rattle.tables.proofs.rows.link.Goals as goal

pub returns : goal.returns
returns c = linked _ _ _ _ _ (omega arith) c.requires.0 c.requires.1 c.requires.2 refl
