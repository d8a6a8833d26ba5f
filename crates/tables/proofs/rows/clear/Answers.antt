use native.Mathlib.Omega.{arith}
use Rattle.tables.proofs.Writes.{slots-filled, cleared}
use Rattle.tables.proofs.rows.clear.Goals as goal

pub returns : goal.returns
returns c = cleared (omega arith) c.requires (omega arith) (slots-filled _ _ _ (omega arith) c.requires (omega arith) (c.fill.ensures.after (λ y e. e)))
