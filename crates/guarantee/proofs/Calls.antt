-- A run whose calls are the engine's is a run of the protocol, so the promises hold of what the engine answers.
-- Assumes nothing.
use Rattle.std.specs.Prelude.{if◌then◌else◌, Result, Ok, Err}
use mathlib.Core.Path.{◌≡◌, refl, sym, ap, ap₂, subst, ◌∙◌}
use mathlib.Core.Bool.{Bool, true, false, not, ◌||◌}
use mathlib.Core.List.{List, [], ◌∷◌, ◌++◌}
use mathlib.Core.Option.{some}
use Prim.Native.Nat.{ℕ, zero, suc, ◌<◌}
use native.Mathlib.Omega.{arith}
use lib.Dec.{T}
use lib.ListN.{length, get_or}
use Rattle.protocol.specs.Lists.{any}
use Rattle.protocol.specs.Statement.{Stmt, same_stmt}
use Rattle.protocol.specs.Controller as controller
use Rattle.protocol.specs.Window.{windows_allowed}
use Rattle.protocol.specs.Call.{Setup, setup_allowed, started, setup}
use Rattle.protocol.specs.Pool.{number_of, pooled, has_room}
use Rattle.protocol.specs.Run.{Call, turn_call, outcome, call, Run, event, returned, controller_of, record_of, TurnAnswers, IsRun}
use Rattle.protocol.specs.Promises.{observed, Promises, DeliveredSets, NoConflict}
use Rattle.protocol.proofs.Numbered.{list_of-cong}
use Rattle.protocol.proofs.Steps.{Next, waits, acts, Start, starts, begun, called, next}
use Rattle.protocol.proofs.Promises.{promises, delivered-sets, no-conflict}
use Rattle.protocol.proofs.Carried.{carried, carried-sets, carried-no-conflict}
use Rattle.pool.specs.Pool.{stmt_at, record_up_to as record_at, record_len, record_in, pool_of, AllIn, Grows}
use Rattle.pool.specs.Changes.{Emptied}
use Rattle.engine.specs.declared.Controller.{Controller}
use Rattle.engine.specs.declared.Answer as held
use Rattle.engine.specs.declared.Refusal.{Refusal}
use Rattle.engine.specs.declared.Answer.TheVariants.{Taken, Signed, Entered, Delivered, Left, Quiet}
use Rattle.engine.specs.Meaning.{controller_is, Came, answer_is}
use Rattle.engine.specs.Promise.{PoolAfter, NumbersAfter, Meets, change_of, signed_of, started_of}
use Rattle.pool.proofs.Records.{pool-length}
use Rattle.guarantee.specs.Calls.{Engine, EngineRun, EngineRuns, EngineAnswers, engine_calls}

-- ---- pools

-- a pool that grows changes no record over it
grown-record : {W W' : List ℕ} → Grows W W' → (R : List ℕ) → AllIn W R → (record_in W' R ≡ record_in W R) × AllIn W' R
unfolding record_at AllIn
grown-record {W} {W'} g R w = (
  list_of-cong (record_len R) (λ i. stmt_at W' (get_or R i 0)) (λ i. stmt_at W (get_or R i 0)) (λ i l. g.same _ (w i l)),
  λ i l. let a = w i l in let b = g.more in omega arith,
)

-- a record without numbers
no-numbers : (W R R' : List ℕ) → Emptied R R' → (record_in W R' ≡ []) × AllIn W R'
unfolding AllIn
no-numbers W R R' e = (e.none W, λ i l. absurd (omega (arith, e.len)))

-- the number of a statement is one of the pool that has it
number-within : (s : Stmt) (P : List Stmt) → number_of s P < length (pooled s P)
unfolding number_of pooled any
number-within s [] = omega arith
number-within s (x ∷ P) = go (same_stmt s x) (any (same_stmt s) P) refl (number-within s P)
  where
    go : (b d : Bool) → any (same_stmt s) P ≡ d → number_of s P < length (pooled s P)
        → (if b then 0 else suc (number_of s P)) < length (if b || d then x ∷ P else (x ∷ P) ++ (s ∷ []))
    go true d e l = omega arith
    go false true e l = let q : length (pooled s P) ≡ length P = ap (λ b. length (if b then P else P ++ (s ∷ []))) e in omega arith
    go false false e l = let q : length (pooled s P) ≡ length (P ++ (s ∷ [])) = ap (λ b. length (if b then P else P ++ (s ∷ []))) e in omega arith

-- what a turn answered means the same over a pool that has grown
module _ {W R left R' W' : List ℕ} {c : Controller} {o : controller.Outcome} {r : Came} (m : Meets W R c o (signed_of o.answer) r left R') (g : Grows left W') where
  signed_same : (i : ℕ) → r.answer ≡ Ok (Signed i) → answer_is W' (Ok (Signed i)) ≡ answer_is left (Ok (Signed i))
  unfolding answer_is
  signed_same i e =
      let s : o.answer ≡ controller.signed (stmt_at left i) = sym m.answer ∙ ap (answer_is left) e in
      let n : i ≡ number_of (stmt_at left i) (pool_of W) = at-number (sym e ∙ m.number (stmt_at left i) s) in
      let p : pool_of left ≡ pooled (stmt_at left i) (pool_of W) = grown-to s in
      let q : length (pool_of left) ≡ length (pooled (stmt_at left i) (pool_of W)) = ap length p in
      ap controller.signed (g.same i (omega (arith, pool-length left, number-within (stmt_at left i) (pool_of W))))
    where
      at-number : {i j : ℕ} → ◌≡◌ {A = Result held.Answer Refusal} (Ok (Signed i)) (Ok (Signed j)) → i ≡ j
      at-number e = cc

      grown-to : {s : Stmt} → o.answer ≡ controller.signed s → pool_of left ≡ pooled s (pool_of W)
      grown-to {s} e = (subst (λ a. PoolAfter W (signed_of a) left) e m.pool).is

  same_answer : answer_is W' r.answer ≡ o.answer
  unfolding answer_is
  same_answer = go r.answer refl ∙ m.answer
    where
      go : (a : Result held.Answer Refusal) → r.answer ≡ a → answer_is W' r.answer ≡ answer_is left r.answer
      go (Ok Taken) e = rw e
      go (Ok (Signed i)) e = rw e (signed_same i e)
      go (Ok (Entered v)) e = rw e
      go (Ok (Delivered i x who)) e = rw e
      go (Ok Left) e = rw e
      go (Ok Quiet) e = rw e
      go (Err q) e = rw e

-- ---- one controller

-- The run's state of controller k before event n is that of the engine.
pub record Agrees (run : Run) (k : ℕ) (e : ℕ → Engine) (n : ℕ) : Type 0 where
  pub controller : controller_is (e n).last.controller ≡ controller_of run k n
  pub statements : record_in (e n).pool (e n).ids ≡ record_of run k n
  pub whole : AllIn (e n).pool (e n).ids

-- a setup that is taken leaves nothing of what was before
setup-anew : (k : ℕ) (p : Setup) (X : List Stmt) → Start k p → setup controller.not_set_up X k p ≡ setup controller.not_set_up [] k p
unfolding setup
setup-anew k p X (starts t u e) = go (setup_allowed k p.members p.senders) (windows_allowed p.windows) t u
  where
    result : Bool → Bool → List Stmt → controller.Outcome
    result a b X =
        if not a then record { answer = controller.refused controller.bad_setup; controller = controller.not_set_up; statements = X }
        else if not b then record { answer = controller.refused controller.bad_window; controller = controller.not_set_up; statements = X }
        else record { answer = controller.taken; controller = started k p; statements = [] }

    go : (a b : Bool) → T a → T b → result a b X ≡ result a b []
    go true true t u = refl
    go false b t u = elim t [ ]
    go true false t u = elim u [ ]

module _ {run : Run} (is : IsRun run) {k : ℕ} (ok : T (run.follows k)) {e : ℕ → Engine} (engine : EngineRun run k e) where
  -- the call of event n, as the run has it
  engine-outcome : (n : ℕ) (c : Call) → event run n ≡ some (call k c) → Agrees run k e n
      → outcome (has_room (pool_of (e n).pool)) (controller_is (e n).last.controller) (record_in (e n).pool (e n).ids) c ≡ returned run k (suc n)
  engine-outcome n c h a =
      ap (λ f. outcome f (controller_is (e n).last.controller) (record_in (e n).pool (e n).ids) c) (sym (engine.room n c h))
      ∙ ap₂ (λ d X. outcome (run.room n) d X c) a.controller a.statements ∙ sym (called is k n c h)

  -- the setup
  first : Agrees run k e 0
  unfolding returned outcome change_of
  first =
      let s = engine.started in
      let f = engine.fresh in
      let b = begun is k (is.numbered k ok) in
      let o : setup (controller_is f.last.controller) (record_in f.pool f.ids) k run.setting ≡ returned run k 0
      = ap (λ d. setup d (record_in f.pool f.ids) k run.setting) engine.unset ∙ setup-anew k run.setting _ b in
      let t : (returned run k 0).answer ≡ controller.taken = is.started k (is.numbered k ok) in
      let n = subst (λ p. NumbersAfter f.pool f.ids (started_of p) (e 0).ids) (ap (λ x. x.answer) o ∙ t) s.called.numbers in
      let (x, w) = no-numbers (e 0).pool f.ids (e 0).ids n in
      record { controller = s.called.controller ∙ ap (λ x. x.controller) o; statements = x ∙ sym (started-empty b); whole = w }
    where
      started-empty : Start k run.setting → (returned run k 0).statements ≡ []
      started-empty (starts t u e) = ap (λ x. x.statements) e

  -- THE ENGINE RUNS THE PROTOCOL: after any number of events its controller and record are the run's
  pub agrees : (n : ℕ) → Agrees run k e n
  agrees zero = first
  agrees (suc n) = go (agrees n) (next is k ok n)
    where
      go : Agrees run k e n → Next is k n → Agrees run k e (suc n)
      go a (acts c h _) =
          let s = engine.called n c h in
          let o = engine-outcome n c h a in
          let (x, w) = s.called.statements a.whole in
          let (y, v) = grown-record s.grows (e (suc n)).ids w in
          record { controller = s.called.controller ∙ ap (λ x. x.controller) o; statements = y ∙ x ∙ ap (λ x. x.statements) o; whole = v }
      go a (waits q f) =
          let w = engine.others n f in
          let (s, v) = grown-record w.grows (e n).ids a.whole in
          record {
            controller = ap (λ x. controller_is x.controller) w.last ∙ a.controller ∙ ap (λ x. x.controller) (sym q);
            statements = ap (record_in (e (suc n)).pool) w.ids ∙ s ∙ a.statements ∙ ap (λ x. x.statements) (sym q);
            whole = subst (AllIn (e (suc n)).pool) (sym w.ids) v;
          }

  -- and each turn answers what the run's turn answers
  pub answers : (n minute : ℕ) → event run n ≡ some (call k (turn_call minute)) → answer_is (e (suc n)).pool (e (suc n)).last.answer ≡ (returned run k (suc n)).answer
  unfolding change_of
  answers n minute h = let s = engine.called n (turn_call minute) h in same_answer s.called s.grows ∙ ap (λ x. x.answer) (engine-outcome n (turn_call minute) h (agrees n))

-- ---- the promises

module _ {run : Run} (is : IsRun run) (e : ℕ → ℕ → Engine) (engines : EngineRuns run e) where
  there : (n k : ℕ) (a : controller.Answer) → T (run.follows k) → EngineAnswers run e n k a → TurnAnswers run n k a
  there n k a ok t = record { minute = t.minute; is_turn = t.is_turn; answers = sym (answers is ok (engines k ok) n t.minute t.is_turn) ∙ t.answers }

  back : (n k : ℕ) (s : Stmt) → T (run.follows k) → TurnAnswers run n k (controller.signed s) → EngineAnswers run e n k (controller.signed s)
  back n k s ok t = record { minute = t.minute; is_turn = t.is_turn; answers = answers is ok (engines k ok) n t.minute t.is_turn ∙ t.answers }

  same : (k n : ℕ) → T (run.follows k) → record_of run k n ≡ record_in (e k n).pool (e k n).ids
  same k n ok = sym (agrees is ok (engines k ok) n).statements

  -- WHAT THE ENGINE ANSWERS KEEPS THE PROMISES
  pub calls-keep : Promises (engine_calls run e)
  calls-keep = carried (observed run) (EngineAnswers run e) (λ k n. record_in (e k n).pool (e k n).ids) there back same (promises is)

  -- each delivered set is the one behind its store quorum
  pub calls-sets : DeliveredSets (engine_calls run e)
  calls-sets = carried-sets (observed run) (EngineAnswers run e) (λ k n. record_in (e k n).pool (e k n).ids) there back same (delivered-sets is)

  -- and no turn is refused with 7
  pub calls-no-conflict : NoConflict (engine_calls run e)
  calls-no-conflict = carried-no-conflict (observed run) (EngineAnswers run e) (λ k n. record_in (e k n).pool (e k n).ids) there back same (no-conflict is)
