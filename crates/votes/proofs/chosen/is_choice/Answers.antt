use mathlib.Core.Path.{sym, ◌∙◌}
use Rattle.votes.proofs.Picked.{all-but-last, second-fails, first-fails, choice-not, choice-told}
use Rattle.votes.proofs.chosen.is_choice.Goals as goal
use Rattle.votes.proofs.chosen.is_choice.Goals.{then-below_view, else-below_view}

pub returns-then-not-agrees_to : goal.returns-then-not-agrees_to
returns-then-not-agrees_to c = choice-not _ _ _ _ c.requires _ c.agrees_to.ensures c.if-not-agrees_to.true

pub returns-then-has_members : goal.returns-then-has_members
returns-then-has_members c = choice-told _ _ _ _ c.requires _ _ _ _ c.agrees_to.ensures c.if-not-agrees_to.false c.at-t.ensures c.view-v.ensures (elim c.if-below_view.branch [
  | then-below_view w ↦ all-but-last _ _ _ (sym c.below_view.ensures ∙ w.if-below_view.true) (sym w.has_members.ensures ∙ sym w.value-is ∙ c.if-has_members.true) c.within_view.ensures
  | else-below_view w ↦ absurd (cc)
])

pub returns-else-has_members : goal.returns-else-has_members
returns-else-has_members c = choice-told _ _ _ _ c.requires _ _ _ _ c.agrees_to.ensures c.if-not-agrees_to.false c.at-t.ensures c.view-v.ensures (elim c.if-below_view.branch [
  | then-below_view w ↦ second-fails _ _ _ (sym c.below_view.ensures ∙ w.if-below_view.true) (w.value-is ∙ w.has_members.ensures) c.if-has_members.false
  | else-below_view w ↦ first-fails _ _ _ (sym c.below_view.ensures ∙ w.if-below_view.false) c.if-has_members.false
])
