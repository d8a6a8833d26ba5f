use mathlib.Core.Path.{refl}
use Rattle.rules.proofs.Scans.{of_none, of_one}
use Rattle.rules.proofs.signed.notice_of.Goals as goal

pub returns-then-not-is_own : goal.returns-then-not-is_own
returns-then-not-is_own c = of_none _ _ _ _ c.if-not-is_own.ensures refl

pub returns : goal.returns
returns c = of_one _ _ _ _ c.if-not-is_own.ensures refl _ c.notice.ensures.0
