use native.Mathlib.Omega.{arith}
use mathlib.Core.Path.{refl}
use Rattle.statements.proofs.Tells.{word-is}
use Rattle.rules.proofs.notice.word.Goals as goal

pub returns : goal.returns
returns c = word-is _ _ _ refl (omega arith)
