use mathlib.Core.Path.{refl, ap}
use Rattle.statements.proofs.KindNumbers.{number_is}
use Rattle.evidence.specs.Casts.{top_is}
use Rattle.evidence.proofs.Behind.{behind-none, behind-some}
use Rattle.evidence.proofs.signers.signers.Goals as goal

pub returns-in_default : goal.returns-in_default
returns-in_default c = behind-none _ _ _ _ _ refl _ c.least_top.ensures (ap top_is c.in_default.is)

pub returns : goal.returns
returns c = behind-some _ _ _ _ _ refl _ c.least_top.ensures _ _ _ _ (ap top_is c.in-Some.is) c.requires.1 (rw (number_is c.args.kind) at c.signers.ensures)
