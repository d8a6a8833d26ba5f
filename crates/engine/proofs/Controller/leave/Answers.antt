use mathlib.Core.Path.{refl}
use borrow.Author.Tests.{not-true, not-false}
use Rattle.engine.proofs.Requests.{request-unready, request-barred, request-again, request-taken, leaves, entered-none, entered-some}
use Rattle.engine.proofs.Controller.leave.Goals as goal
use Rattle.engine.proofs.Controller.leave.Goals.{then-self-eq0-via-then-self-eq0, then-self-eq0-via-else-self-eq0+then-self}

pub returns-then-not-self : goal.returns-then-not-self
returns-then-not-self c = leaves _ _ (request-unready _ _ _ _ _ (refl, refl) (not-true _ c.if-not-self.true))

pub returns-then-self-eq0 : goal.returns-then-self-eq0
returns-then-self-eq0 c = elim c.then-self-eq0.branch [
  | then-self-eq0-via-then-self-eq0 w ↦ leaves _ _ (request-barred _ _ _ _ _ (refl, refl) (not-false _ c.if-not-self.false) (entered-none _ w.if-self-eq0.true))
  | then-self-eq0-via-else-self-eq0+then-self w ↦ leaves _ _ (request-again _ _ _ _ _ (refl, refl) (not-false _ c.if-not-self.false) (entered-some _ w.if-self-eq0.false) w.if-self.true)
]

pub returns : goal.returns
returns c = leaves _ _ (request-taken _ _ _ _ _ (refl, refl) (not-false _ c.if-not-self.false) (entered-some _ c.if-self-eq0.false) c.if-self.false)
