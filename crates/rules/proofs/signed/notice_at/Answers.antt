use mathlib.Core.Path.{refl}
use Rattle.rules.proofs.Scans.{of-at-none, of-at-one}
use Rattle.rules.proofs.signed.notice_at.Goals as goal

pub returns-then-not-is_own_at : goal.returns-then-not-is_own_at
returns-then-not-is_own_at c = of-at-none _ _ _ _ _ c.if-not-is_own_at.ensures refl

pub returns : goal.returns
returns c = of-at-one _ _ _ _ _ c.if-not-is_own_at.ensures refl _ c.notice.ensures.0
