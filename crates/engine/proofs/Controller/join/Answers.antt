use mathlib.Core.Path.{refl, sym, ◌∙◌}
use borrow.Author.Tests.{not-true, not-false}
use Rattle.engine.proofs.Requests.{request-unready, request-barred, request-again, request-taken, joins}
use Rattle.engine.proofs.Controller.join.Goals as goal
use Rattle.engine.proofs.Controller.join.Goals.{then-has_member-via-then-has_member, then-has_member-via-else-has_member+then-self}

pub returns-then-not-self : goal.returns-then-not-self
returns-then-not-self c = joins _ _ (request-unready _ _ _ _ _ (refl, refl) (not-true _ c.if-not-self.true))

pub returns-then-has_member : goal.returns-then-has_member
returns-then-has_member c = elim c.then-has_member.branch [
  | then-has_member-via-then-has_member w ↦ joins _ _ (request-barred _ _ _ _ _ (refl, refl) (not-false _ c.if-not-self.false) (sym c.has_member.ensures ∙ w.if-has_member.true))
  | then-has_member-via-else-has_member+then-self w ↦ joins _ _ (request-again _ _ _ _ _ (refl, refl) (not-false _ c.if-not-self.false) (sym c.has_member.ensures ∙ w.if-has_member.false) w.if-self.true)
]

pub returns : goal.returns
returns c = joins _ _ (request-taken _ _ _ _ _ (refl, refl) (not-false _ c.if-not-self.false) (sym c.has_member.ensures ∙ c.if-has_member.false) c.if-self.false)
