use native.Mathlib.Omega.{arith}
use Rattle.statements.proofs.Tells.{word-is}
use Rattle.pool.proofs.report.word.Goals as goal

pub returns : goal.returns
returns c = word-is c.args.block.now c.args.i _ c.raw.ensures (omega arith)
