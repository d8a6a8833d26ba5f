-- What every call promises: its answer, the whole controller and record after it, and the pool.
-- Assumes nothing.
use Rattle.std.specs.Prelude.{◌≡◌, Bool, List, ℕ, Result, Ok}
use Rattle.protocol.specs.Statement.{Stmt}
use Rattle.protocol.specs.Controller as controller
use Rattle.protocol.specs.Call as call
use Rattle.protocol.specs.Pool.{number_of, pooled, has_room}
use Rattle.protocol.specs.Run.{Call, setup_call, join_call, leave_call, send_call, add_call, turn_call, outcome}
use Rattle.engine.specs.declared.Controller.{Controller}
use Rattle.pool.specs.Pool.{record_in, pool_of, AllIn}
use Rattle.pool.specs.Changes.{pooled_in, PushedTo, Emptied}
use Rattle.engine.specs.declared.Answer.{Answer}
use Rattle.engine.specs.declared.Refusal.{Refusal}
use Rattle.engine.specs.declared.Answer.TheVariants.{Signed}
use Rattle.engine.specs.Meaning.{controller_is, Came, answer_is}

-- What a call does to a record: nothing, it empties it, or it puts a statement at its end.
pub data Change : Type 0 where
  unchanged : Change
  emptied : Change
  grown : Stmt → Change

-- s is in the pool now; every word of the memory is fixed.
pub record Pooled (s : Stmt) (W W' : List ℕ) : Type 0 where
  pub is : pool_of W' ≡ pooled s (pool_of W)
  pub words : W' ≡ pooled_in W s

-- The pool after it: what goes into a record is in the pool.
abbrev pub PoolAfter : List ℕ → Change → List ℕ → Type 0
PoolAfter W unchanged W' = W' ≡ W
PoolAfter W emptied W' = W' ≡ W
PoolAfter W (grown s) W' = Pooled s W W'

-- The record after it: as it was to the last place, none, or with the number of the statement in the pool at its end.
abbrev pub NumbersAfter : List ℕ → List ℕ → Change → List ℕ → Type 0
NumbersAfter W R unchanged R' = R' ≡ R
NumbersAfter W R emptied R' = Emptied R R'
NumbersAfter W R (grown s) R' = PushedTo R (number_of s (pool_of W)) R'

-- The answer was refused.
abbrev pub IsRefused : controller.Answer → Type 0
IsRefused controller.taken = ⊥
IsRefused (controller.signed s) = ⊥
IsRefused (controller.entered v) = ⊥
IsRefused (controller.delivered i m a) = ⊥
IsRefused controller.left = ⊥
IsRefused controller.quiet = ⊥
IsRefused (controller.refused r) = Unit {0}

-- What a turn that answers so does to the record: what it signs goes at the end.
abbrev pub signed_of : controller.Answer → Change
signed_of controller.taken = unchanged
signed_of (controller.signed s) = grown s
signed_of (controller.entered v) = unchanged
signed_of (controller.delivered i m a) = unchanged
signed_of controller.left = unchanged
signed_of controller.quiet = unchanged
signed_of (controller.refused r) = unchanged

-- A call on c over the pool W and the record R has the outcome o and changes the record by p; it returned r, and left the pool W' and the record R'.
-- What becomes of the record's numbers is promised for every record. What they mean is promised for one whose numbers are in the pool, as they stay: a number that a made-up
-- record names and the pool does not have may come to mean a new statement.
pub record Meets (W R : List ℕ) (c : Controller) (o : controller.Outcome) (p : Change) (r : Came) (W' R' : List ℕ) : Type 0 where
  pub answer : answer_is W' r.answer ≡ o.answer
  pub number : (s : Stmt) → o.answer ≡ controller.signed s → r.answer ≡ Ok (Signed (number_of s (pool_of W)))
  pub controller : controller_is r.controller ≡ o.controller
  pub numbers : NumbersAfter W R p R'
  pub statements : AllIn W R → (record_in W' R' ≡ o.statements) × AllIn W' R'
  pub pool : PoolAfter W p W'
  -- "as before", to the last byte.
  pub refused : IsRefused o.answer → (r.controller ≡ c) × (R' ≡ R) × (W' ≡ W)

-- A call that touches neither the pool nor the record, whatever they are.
unfoldable pub Calls : (List Stmt → controller.Outcome) → Controller → Came → Type 0
Calls f c r = (W R : List ℕ) → Meets W R c (f (record_in W R)) unchanged r W R

-- What a setup that answers so does to the record: one that is taken empties it.
abbrev pub started_of : controller.Answer → Change
started_of controller.taken = emptied
started_of (controller.signed s) = unchanged
started_of (controller.entered v) = unchanged
started_of (controller.delivered i m a) = unchanged
started_of controller.left = unchanged
started_of controller.quiet = unchanged
started_of (controller.refused r) = unchanged

-- A setup, over any pool.
unfoldable pub Starts : (List Stmt → controller.Outcome) → List ℕ → Controller → Came → List ℕ → Type 0
Starts f R c r R' = (W : List ℕ) → Meets W R c (f (record_in W R)) (started_of (f (record_in W R)).answer) r W R'

-- A turn: what it signs goes into the pool.
abbrev pub Turns : List ℕ → List ℕ → Controller → controller.Outcome → Came → List ℕ → List ℕ → Type 0
Turns W R c o r W' R' = Meets W R c o (signed_of o.answer) r W' R'

-- What an addition of s that answers so does to the record.
abbrev pub added_of : controller.Answer → Stmt → Change
added_of controller.taken s = grown s
added_of (controller.signed x) s = unchanged
added_of (controller.entered v) s = unchanged
added_of (controller.delivered i m a) s = unchanged
added_of controller.left s = unchanged
added_of controller.quiet s = unchanged
added_of (controller.refused r) s = unchanged

-- An addition of s.
abbrev pub Adds : List ℕ → List ℕ → Controller → Stmt → controller.Outcome → Came → List ℕ → List ℕ → Type 0
Adds W R c s o r W' R' = Meets W R c o (added_of o.answer s) r W' R'

-- The same of the answer alone: no addition changes a controller, and it asks only whether that is set up and how many notices it has.
pub record AddsFor (ready : Bool) (notices : ℕ) (W R : List ℕ) (s : Stmt) (a : Result Answer Refusal) (W' R' : List ℕ) : Type 0 where
  pub each : (c : Controller) → c.ready ≡ ready → c.notices ≡ notices → Adds W R c s (call.add (controller_is c) (record_in W R) (has_room (pool_of W)) s) (record { answer = a; controller = c }) W' R'

-- ---- every call of a run

-- What a call that answers so does to the record.
unfoldable pub change_of : Call → controller.Answer → Change
change_of (setup_call number s) a = started_of a
change_of join_call a = unchanged
change_of leave_call a = unchanged
change_of (send_call notice payload) a = unchanged
change_of (add_call s) a = added_of a s
change_of (turn_call minute) a = signed_of a

-- The engine was called so, over the pool W and the record R, and returned r with the pool W' and the record R'. Every contract of the engine's calls is of this form.
abbrev pub Called : List ℕ → List ℕ → Controller → Call → Came → List ℕ → List ℕ → Type 0
Called W R c k r W' R' =
    Meets W R c (outcome (has_room (pool_of W)) (controller_is c) (record_in W R) k) (change_of k (outcome (has_room (pool_of W)) (controller_is c) (record_in W R) k).answer) r W' R'
