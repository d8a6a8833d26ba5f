-- What a call on a controller in lent memory comes to: the engine's call between loading and storing.
-- Assumes nothing.
use Rattle.std.specs.Prelude.{Result, Ok, Err, Some, None}
use Prim.Native.Nat.{ℕ, ◌≤◌}
use native.Mathlib.Omega.{arith}
use native.Mathlib.Decide.{dec_lt}
use mathlib.Core.Path.{◌≡◌, refl, sym, ap, subst, ◌∙◌}
use mathlib.Core.Bool.{Bool, true, false}
use mathlib.Core.List.{List, []}
use Rattle.protocol.specs.Statement.{Stmt}
use Rattle.protocol.specs.Controller as controller
use Rattle.protocol.specs.Call as call
use Rattle.protocol.specs.Turn.{turn}
use Rattle.protocol.specs.Pool.{has_room}
use Rattle.protocol.proofs.Unchanged.{Idle, Stays, setup-stays, join-stays, leave-stays, send-stays, turn-stays}
use Rattle.statements.specs.declared.Statement.{Statement}
use Rattle.statements.specs.Meaning.{stmt_of}
use Rattle.statements.specs.Promise.{ReadOf}
use Rattle.engine.specs.declared.Controller.{Controller}
use Rattle.engine.specs.declared.Answer.{Answer}
use Rattle.engine.specs.declared.Answer.TheVariants.{Taken, Signed, Entered, Delivered, Left, Quiet}
use Rattle.engine.specs.declared.Outcome.{Outcome}
use Rattle.engine.specs.declared.Refusal.{Refusal}
use Rattle.engine.specs.declared.Refusal.TheVariants.{BadStatement, OutOfPlace}
use Rattle.pool.specs.Pool.{record_len, record_in, pool_of}
use Rattle.engine.specs.Meaning.{controller_is, Came, came_to, answer_is}
use Rattle.engine.specs.Promise.{Change, unchanged, NumbersAfter, Meets, Calls, Starts, IsRefused, started_of, signed_of, added_of, AddsFor}
use Rattle.engine.proofs.Requests.{refused-so}
use Rattle.host.proofs.Written.{not-read, is-statement}
use Rattle.host.specs.Memory.{ready_in, notices_in, controller_at}
use Rattle.host.specs.Host.{answer_number, value_words, Hosted, Fresh, SetUpOn, SetsUp, CallOn, Joins, Leaves, Sends, TurnOn, TakesTurn, AddOn, no_statement, AddsText}
use Rattle.host.specs.Stored.{Finished, NoneFor}

-- ---- where nothing was done

-- answers from 4 on: left, quiet, refused
idle : (W : List ℕ) (a : Result Answer Refusal) → 4 ≤ answer_number a → Idle (answer_is W a)
unfolding answer_number answer_is
idle W (Ok Taken) e = absurd (omega arith)
idle W (Ok (Signed n)) e = absurd (omega arith)
idle W (Ok (Entered v)) e = absurd (omega arith)
idle W (Ok (Delivered i m who)) e = absurd (omega arith)
idle W (Ok Left) e = tt
idle W (Ok Quiet) e = tt
idle W (Err r) e = tt

-- a refusal is one of them
pub is-idle : (W : List ℕ) (a : Result Answer Refusal) → IsRefused (answer_is W a) → 4 ≤ answer_number a
unfolding answer_number answer_is
is-idle W (Ok Taken) t = absurd t
is-idle W (Ok (Signed n)) t = absurd t
is-idle W (Ok (Entered v)) t = absurd t
is-idle W (Ok (Delivered i m who)) t = absurd t
is-idle W (Ok Left) t = absurd t
is-idle W (Ok Quiet) t = absurd t
is-idle W (Err r) t = omega arith

-- the record stays then
module _ (W R R' : List ℕ) where
  started-idle : (a : controller.Answer) → Idle a → NumbersAfter W R (started_of a) R' → R' ≡ R
  started-idle controller.left i n = n
  started-idle controller.quiet i n = n
  started-idle (controller.refused r) i n = n
  started-idle controller.taken i n = elim i [ ]
  started-idle (controller.signed _) i n = elim i [ ]
  started-idle (controller.entered _) i n = elim i [ ]
  started-idle (controller.delivered _ _ _) i n = elim i [ ]

  signed-idle : (a : controller.Answer) → Idle a → NumbersAfter W R (signed_of a) R' → R' ≡ R
  signed-idle controller.left i n = n
  signed-idle controller.quiet i n = n
  signed-idle (controller.refused r) i n = n
  signed-idle controller.taken i n = elim i [ ]
  signed-idle (controller.signed _) i n = elim i [ ]
  signed-idle (controller.entered _) i n = elim i [ ]
  signed-idle (controller.delivered _ _ _) i n = elim i [ ]

  added-idle : (a : controller.Answer) (s : Stmt) → Idle a → NumbersAfter W R (added_of a s) R' → R' ≡ R
  added-idle controller.left s i n = n
  added-idle controller.quiet s i n = n
  added-idle (controller.refused r) s i n = n
  added-idle controller.taken s i n = elim i [ ]
  added-idle (controller.signed _) s i n = elim i [ ]
  added-idle (controller.entered _) s i n = elim i [ ]
  added-idle (controller.delivered _ _ _) s i n = elim i [ ]

module _ {W R : List ℕ} {c : Controller} {o : controller.Outcome} {p : Change} {r : Came} {W' R' : List ℕ} (m : Meets W R c o p r W' R') (i : 4 ≤ answer_number r.answer) where
  pub is-answer : Idle o.answer
  is-answer = subst Idle m.answer (idle W' r.answer i)

  -- and the controller before the call is one that the call may leave
  pub as_before : Stays (controller_is c) (record_in W R) o → Meets W R c o p (record { answer = r.answer; controller = c }) W' R'
  as_before s = record {
    answer = m.answer;
    number = m.number;
    controller = sym (s.stays is-answer).0;
    numbers = m.numbers;
    statements = m.statements;
    pool = m.pool;
    refused = λ t. (refl, (m.refused t).1, (m.refused t).2);
  }

-- ---- the calls

module _ (r : Result Outcome Refusal) {F : List ℕ} {n : ℕ} {F' value : List ℕ} (c : Controller) (e : c ≡ controller_at F) (told : Finished (came_to (controller_at F) r) F n F' value) where
  abbrev o : Came
  o = came_to c r

  f : Finished (came_to c r) F n F' value
  f = subst (λ x. Finished (came_to x r) F n F' value) (sym e) told

  -- what the engine promised of the loaded controller holds of the memory
  hosted : (Met : Controller → Came → Type 0) (R R' : List ℕ) → Met c o → (4 ≤ answer_number o.answer → Met c (record { answer = o.answer; controller = c }) × (R' ≡ R)) → Hosted (Met (controller_at F)) F R n F' R' value
  hosted Met R R' m b = elim (dec_lt n 4) [
    | yes l ↦ record { outcome = o; met = subst (λ x. Met x o) e m; answered = f.answered; valued = f.valued; held = f.held l; idle = λ h. absurd (omega arith) }
    | no l ↦ (let k : 4 ≤ answer_number o.answer = omega (arith, f.answered) in record {
      outcome = record { answer = o.answer; controller = controller_at F };
      met = subst (λ x. Met x (record { answer = o.answer; controller = x })) e (b k).0;
      answered = f.answered;
      valued = f.valued;
      held = ap controller_at (f.idle (omega arith));
      idle = λ h. (f.idle (omega arith), (b k).1);
    })
  ]

  pub setup-hosted : {R R' : List ℕ} (number : ℕ) (s : call.Setup) → SetUpOn number s R R' c o → SetsUp F R number s n F' R' value
  unfolding Starts
  setup-hosted {R} {R'} number s m =
      hosted (SetUpOn number s R R') R R' m
      (λ k. (λ W. as_before (m W) k (setup-stays (controller_is c) (record_in W R) number s), started-idle [] R R' (call.setup (controller_is c) (record_in [] R) number s).answer (is-answer (m []) k) (m []).numbers))

  -- the requests, which have no use for a record
  called : (R : List ℕ) (g : controller.Controller → List Stmt → controller.Outcome) → ((X : List Stmt) → Stays (controller_is c) X (g (controller_is c) X)) → Calls (g (controller_is c)) c o
      → Hosted (CallOn g R R (controller_at F)) F R n F' R value
  unfolding Calls
  called R g s m = hosted (CallOn g R R) R R (λ W. m W R) (λ k. (λ W. as_before (m W R) k (s (record_in W R)), refl))

  pub join-hosted : (R : List ℕ) → Calls (call.request_join (controller_is c)) c o → Joins F R n F' R value
  join-hosted R m = called R call.request_join (join-stays (controller_is c)) m

  pub leave-hosted : (R : List ℕ) → Calls (call.request_leave (controller_is c)) c o → Leaves F R n F' R value
  leave-hosted R m = called R call.request_leave (leave-stays (controller_is c)) m

  pub send-hosted : (R : List ℕ) (i m : ℕ) → Calls (λ X. call.request_send (controller_is c) X i m) c o → Sends F R i m n F' R value
  send-hosted R i m k = called R (λ d X. call.request_send d X i m) (λ X. send-stays (controller_is c) X i m) k

  pub turn-hosted : {W R W' R' : List ℕ} (minute : ℕ) → TurnOn W R W' R' minute c o → TakesTurn W W' F R minute n F' R' value
  turn-hosted {W} {R} {W'} {R'} minute m =
      hosted (TurnOn W R W' R' minute) R R' m
      (λ k. (as_before m k (turn-stays (controller_is c) (record_in W R) (has_room (pool_of W)) minute), signed-idle W R R' (turn (controller_is c) (record_in W R) (has_room (pool_of W)) minute).answer (is-answer m k) m.numbers))

pub fresh : (F R : List ℕ) (c : Controller) → controller_is c ≡ controller.not_set_up → controller_at F ≡ c → record_len R ≡ 0 → Fresh F R
fresh F R c p e l = record { controller = ap controller_is e ∙ p; statements = l }

-- ---- an addition by text

module _ (c : Controller) (X : List Stmt) where
  none-unready : c.ready ≡ false → no_statement (controller_is c) X ≡ call.refuse (controller_is c) X controller.out_of_place
  unfolding no_statement controller_is
  none-unready e = rw e

  none-ready : c.ready ≡ true → no_statement (controller_is c) X ≡ call.refuse (controller_is c) X controller.bad_statement
  unfolding no_statement controller_is
  none-ready e = rw e

module _ (ready : Bool) where
  pub none_before : ready ≡ false → NoneFor ready (Err OutOfPlace)
  none_before h = record { each = λ c e W R. subst (λ o. Meets W R c o unchanged (record { answer = Err OutOfPlace; controller = c }) W R) (sym (none-unready c (record_in W R) (e ∙ h))) (refused-so W R c (record { answer = Err OutOfPlace; controller = c }) OutOfPlace refl refl) }

  pub none_after : ready ≡ true → NoneFor ready (Err BadStatement)
  none_after h = record { each = λ c e W R. subst (λ o. Meets W R c o unchanged (record { answer = Err BadStatement; controller = c }) W R) (sym (none-ready c (record_in W R) (e ∙ h))) (refused-so W R c (record { answer = Err BadStatement; controller = c }) BadStatement refl refl) }

-- S was read by the controller's number of notices, and a was told
module _ (F S B : List ℕ) (b : Bool) (b-is : b ≡ ready_in F) (k : ℕ) (k-is : k ≡ notices_in F) (a : Result Answer Refusal) (n : ℕ) (value : List ℕ) (t : (n ≡ answer_number a) × (value ≡ value_words a)) (W R : List ℕ) where
  -- it is no text of a statement
  pub unread-hosted : ReadOf S k B None → NoneFor b a → AddsText S W W F R n R value
  unfolding controller_at
  unread-hosted q m = record {
    statement = λ s. absurd (not-read (notices_in F) S B (subst (λ m. ReadOf S m B None) k-is q) s);
    none = λ f. record { outcome = record { answer = a; controller = controller_at F }; met = m.each (controller_at F) (sym b-is) W R; answered = t.0; valued = t.1; held = refl; idle = λ _. (refl, refl) };
  }

  -- it is
  module _ (st : Statement) (q : ReadOf S k B (Some st)) (W' R' : List ℕ) (m : AddsFor b k W R (stmt_of st B) a W' R') where
    p : ReadOf S (notices_in F) B (Some st)
    p = subst (λ m. ReadOf S m B (Some st)) k-is q

    added : AddOn W R W' R' (stmt_of st B) (controller_at F) (record { answer = a; controller = controller_at F })
    unfolding controller_at
    added = m.each (controller_at F) (sym b-is) (sym k-is)

    pub add-hosted : AddsText S W W' F R n R' value
    add-hosted = record {
      statement = λ s. record {
        outcome = record { answer = a; controller = controller_at F };
        met = subst (λ x. AddOn W R W' R' x (controller_at F) (record { answer = a; controller = controller_at F })) (p.back s.statement s.rules s.is) added;
        answered = t.0;
        valued = t.1;
        held = refl;
        idle = λ l. (refl, added-idle W R R' (call.add (controller_is (controller_at F)) (record_in W R) (has_room (pool_of W)) (stmt_of st B)).answer (stmt_of st B) (is-answer added (omega (arith, t.0))) added.numbers);
      };
      none = λ f. absurd (f (is-statement (notices_in F) S B st p));
    }
