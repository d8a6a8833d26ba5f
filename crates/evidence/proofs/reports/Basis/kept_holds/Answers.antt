use mathlib.Core.Path.{refl, ap, ◌∙◌}
use mathlib.Core.Bool.{not}
use mathlib.Core.List.{[]}
use Rattle.evidence.proofs.Reporting as laws
use Rattle.evidence.proofs.reports.Basis.kept_holds.Goals as goal

pub returns-then-not-has : goal.returns-then-not-has
returns-then-not-has c = ap not c.if-not-has.true ∙ laws.kept-none _ _ _ _ _ [] c.stored.ensures c.has.ensures c.if-not-has.true

pub returns-then-has : goal.returns-then-has
returns-then-has c = laws.kept_payload _ _ _ _ _ [] c.stored.ensures c.has.ensures c.if-not-has.false _ c.has-else-not-has.ensures _ _ c.if-has.true c.told_kept.ensures refl

pub returns-else-has : goal.returns-else-has
returns-else-has c = c.if-has.false ∙ laws.kept-lone _ _ _ _ _ [] c.stored.ensures c.has.ensures c.if-not-has.false _ c.has-else-not-has.ensures c.if-has.false
