-- What is left of a call that was refused.
-- Assumes nothing.
use Rattle.std.specs.Prelude.{Result, Err}
use mathlib.Core.Path.{◌≡◌, sym, subst}
use mathlib.Core.List.{List}
use Prim.Native.Nat.{ℕ}
use Rattle.protocol.specs.Controller as controller
use Rattle.engine.specs.declared.Controller.{Controller}
use Rattle.engine.specs.declared.Outcome.{Outcome}
use Rattle.engine.specs.declared.Refusal.{Refusal}
use Rattle.engine.specs.Meaning.{came_to, answer_is}
use Rattle.engine.specs.Promise.{Change, Meets, IsRefused}

-- a controller that is lent for a call that is refused is as it was, so it need not be looked at
pub as-lent : {W R : List ℕ} {c d : Controller} {o : controller.Outcome} {p : Change} {q : Refusal} {W' R' : List ℕ} (r : Result Outcome Refusal) → Meets W R c o p (record { answer = Err q; controller = d }) W' R' → r ≡ Err q → Meets W R c o p (came_to c r) W' R'
unfolding answer_is
as-lent {W} {R} {c} {d} {o} {p} {q} {W'} {R'} r m e =
    subst (λ x. Meets W R c o p (came_to c x) W' R') (sym e)
    (subst (λ x. Meets W R c o p (record { answer = Err q; controller = x }) W' R') (m.refused (subst IsRefused m.answer tt)).0 m)
