use mathlib.Core.Path.{sym, ◌∙◌}
use borrow.Author.Tests.{eqb-true}
use Rattle.evidence.proofs.Senders as laws
use Rattle.evidence.proofs.reports.tells_nothing.Goals.{then-bound-eq0, else-bound-eq0}
use Rattle.evidence.proofs.reports.tells_nothing.Goals as goal

pub returns-then-barred-eq0 : goal.returns-then-barred-eq0
returns-then-barred-eq0 c = λ e. elim c.if-bound-eq0.branch [
  | then-bound-eq0 w ↦ laws.tells-nothing _ _ _ _ _ c.bound.ensures w.barred.ensures c.stored.ensures w.if-bound-eq0.true (eqb-true _ _ (sym w.value-is ∙ c.if-barred-eq0.true)) (eqb-true _ _ e)
  | else-bound-eq0 w ↦ absurd (w.if-bound-eq0.false (eqb-true _ _ (sym w.value-is ∙ c.if-barred-eq0.true)))
]
