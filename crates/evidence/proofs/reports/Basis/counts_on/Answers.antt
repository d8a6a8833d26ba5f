use native.Mathlib.Omega.{arith}
use mathlib.Core.Path.{sym, ◌∙◌}
use borrow.Author.Tests.{eqb-true, eqb-false}
use Rattle.views.proofs.Views.{view-is, view-not}
use Rattle.evidence.proofs.Reporting.{on-other, on-kind, on-counted}
use Rattle.evidence.proofs.reports.Basis.counts_on.Goals.{then-at-u, else-at-u}
use Rattle.evidence.proofs.reports.Basis.counts_on.Goals as goal

pub returns-then-kind : goal.returns-then-kind
returns-then-kind c = elim c.if-at-u.branch [
  | then-at-u w ↦ on-counted _ _ _ _ _ _ (view-is _ _ _ c.at.ensures w.if-at-u.true (omega arith) (omega arith)) _ w.kind.ensures.0 _ (eqb-true _ _ (sym w.value-is ∙ c.if-kind.true)) c.counts.ensures
  | else-at-u w ↦ absurd (w.if-at-u.false (eqb-true _ _ (sym w.value-is ∙ c.if-kind.true)))
]

pub returns-else-kind : goal.returns-else-kind
returns-else-kind c = c.if-kind.false ∙ elim c.if-at-u.branch [
  | then-at-u w ↦ on-kind _ _ _ _ _ _ (view-is _ _ _ c.at.ensures w.if-at-u.true (omega arith) (omega arith)) _ w.kind.ensures.0 (eqb-false _ _ (sym w.value-is ∙ c.if-kind.false))
  | else-at-u w ↦ on-other _ _ _ _ _ _ (view-not _ _ _ c.at.ensures w.if-at-u.false (omega arith) (omega arith))
]
