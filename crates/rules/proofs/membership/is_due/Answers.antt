use mathlib.Core.Path.{sym, ap, ◌∙◌}
use mathlib.Core.Bool.{true≢false}
use Rattle.protocol.specs.View.{below, member}
use Rattle.views.specs.Held.{view_is}
use Rattle.rules.proofs.Applied.{due-above, due-outside, due-open}
use Rattle.rules.proofs.membership.is_due.Goals as goal
use Rattle.rules.proofs.membership.is_due.Goals.{then-below, else-below}

pub returns-then-has_member : goal.returns-then-has_member
returns-then-has_member c = elim c.if-below.branch [
  | then-below w ↦ due-open _ _ _ _ _ _ _ _ (c.below.ensures ∙ ap (λ v. below 16 v (view_is c.args.t)) c.of_word-v.ensures) w.if-below.true (w.has_member.ensures ∙ ap (λ v. member v c.args.number) c.of_word-v.ensures) (sym w.value-is ∙ c.if-has_member.true) (c.word.ensures ∙ c.of_word-v.ensures) c.signed_at.ensures
  | else-below w ↦ absurd (true≢false (sym c.if-has_member.true ∙ w.value-is ∙ w.if-below.false))
]

pub returns-else-has_member : goal.returns-else-has_member
returns-else-has_member c = elim c.if-below.branch [
  | then-below w ↦ c.if-has_member.false ∙ due-outside _ _ _ _ _ _ (c.below.ensures ∙ ap (λ v. below 16 v (view_is c.args.t)) c.of_word-v.ensures) w.if-below.true (w.has_member.ensures ∙ ap (λ v. member v c.args.number) c.of_word-v.ensures) (sym w.value-is ∙ c.if-has_member.false)
  | else-below w ↦ c.if-has_member.false ∙ due-above _ _ _ _ _ (c.below.ensures ∙ ap (λ v. below 16 v (view_is c.args.t)) c.of_word-v.ensures) w.if-below.false
]
