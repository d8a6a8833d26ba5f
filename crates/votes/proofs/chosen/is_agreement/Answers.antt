use native.Mathlib.Omega.{arith}
use mathlib.Core.Path.{sym, ◌∙◌}
use Rattle.votes.proofs.Picked.{all-but-last, second-fails, first-fails, agreement-not, agreement-told, top-other}
use Rattle.votes.proofs.chosen.is_agreement.Goals as goal
use Rattle.votes.proofs.chosen.is_agreement.Goals.{then-has_view, else-has_view}

pub returns-then-not-agrees_to : goal.returns-then-not-agrees_to
returns-then-not-agrees_to c = agreement-not _ _ _ _ c.requires _ c.agrees_to.ensures c.if-not-agrees_to.true

pub returns-then-top_view-t : goal.returns-then-top_view-t
returns-then-top_view-t c = agreement-told _ _ _ _ c.requires _ _ _ c.agrees_to.ensures c.if-not-agrees_to.false c.at-t.ensures (elim c.if-has_view.branch [
  | then-has_view w ↦ all-but-last _ _ _ (sym c.has_view.ensures ∙ w.if-has_view.true) (sym (top-other _ _ _ w.top_view.ensures (omega arith) (omega arith)) ∙ sym w.value-is ∙ c.if-top_view-t.true) c.is_history.ensures
  | else-has_view w ↦ absurd (cc)
])

pub returns-else-top_view-t : goal.returns-else-top_view-t
returns-else-top_view-t c = agreement-told _ _ _ _ c.requires _ _ _ c.agrees_to.ensures c.if-not-agrees_to.false c.at-t.ensures (elim c.if-has_view.branch [
  | then-has_view w ↦ second-fails _ _ _ (sym c.has_view.ensures ∙ w.if-has_view.true) (w.value-is ∙ top-other _ _ _ w.top_view.ensures (omega arith) (omega arith)) c.if-top_view-t.false
  | else-has_view w ↦ first-fails _ _ _ (sym c.has_view.ensures ∙ w.if-has_view.false) c.if-top_view-t.false
])
