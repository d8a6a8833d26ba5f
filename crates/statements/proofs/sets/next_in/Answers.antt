use native.Mathlib.Omega.{arith}
use Rattle.statements.proofs.NoticeSets.{next-least}
use Rattle.statements.proofs.sets.next_in.Goals as goal

pub returns : goal.returns
returns c = rw c.min.ensures (next-least c.args.set c.args.j (omega arith) (omega arith))
