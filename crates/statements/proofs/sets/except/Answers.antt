use native.Mathlib.Omega.{arith}
use Rattle.statements.proofs.NoticeSets.{except-bits}
use Rattle.statements.proofs.sets.except.Goals as goal

pub returns : goal.returns
returns c = except-bits c.args.a c.args.b (omega arith) (omega arith)
