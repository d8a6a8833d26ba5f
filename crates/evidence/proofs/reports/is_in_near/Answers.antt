use native.Mathlib.Omega.{arith}
use mathlib.Core.Path.{sym, ap, ◌∙◌}
use Rattle.views.specs.View.{view_of, views_of}
use Rattle.views.proofs.Tables.{any_at}
use Rattle.views.proofs.Views.{same-yes}
use borrow.Author.Tests.{ltb-true, eqb-true}
use Rattle.evidence.proofs.reports.is_in_near.Goals.{then-p-n, else-p-n}
use Rattle.evidence.proofs.reports.is_in_near.Goals as goal

pub returns-then-list-p : goal.returns-then-list-p
unfolding views_of
returns-then-list-p c = c.if-list-p.true ∙ elim c.if-p-n.branch [
  | then-p-n w ↦ sym (any_at _ _ _ w.if-p-n.true (same-yes _ _ (ap view_of (sym (eqb-true _ _ (sym w.value-is ∙ c.if-list-p.true))))))
  | else-p-n w ↦ absurd (omega (arith, ltb-true _ _ (sym w.value-is ∙ c.if-list-p.true), w.if-p-n.false))
]
