use native.Mathlib.Omega.{arith}
use mathlib.Core.Path.{refl}
use Rattle.statements.proofs.Tells.{word-is}
use Rattle.statements.proofs.block.word.Goals as goal

pub returns : goal.returns
returns c = word-is c.args.block.now c.args.i _ refl (omega arith)
