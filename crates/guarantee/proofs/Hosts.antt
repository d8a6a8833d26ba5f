-- A host's calls are the engine's, so the promises hold of the numbers that the host gets.
-- Assumes nothing.
use Rattle.std.specs.Prelude.{Result, Ok, Err}
use mathlib.Core.Path.{◌≡◌, refl, sym, ap, ap₂, subst, ◌∙◌}
use mathlib.Core.List.{List, [], ◌∷◌}
use mathlib.Core.Option.{some}
use Prim.Native.Nat.{ℕ, zero, suc, ◌+◌, ◌*◌, ◌/◌, ◌%◌, ◌<◌}
use native.Mathlib.Omega.{arith}
use lib.Dec.{T}
use Rattle.protocol.specs.View.{controllers, View, is_view}
use Rattle.protocol.specs.Statement.{Stmt}
use Rattle.protocol.specs.Controller as controller
use Rattle.protocol.specs.Run.{Call, turn_call, call, Run, event, returned, record_of, TurnAnswers, IsRun}
use Rattle.protocol.specs.Promises.{observed, Promises, DeliveredSets, NoConflict}
use Rattle.protocol.proofs.Order.{fits}
use Rattle.protocol.proofs.Steps.{Next, waits, acts, next}
use Rattle.protocol.proofs.Model.{entered-top, top-is-view}
use Rattle.protocol.proofs.Promises.{promises, delivered-sets, no-conflict}
use Rattle.protocol.proofs.Carried.{carried, carried-sets, carried-no-conflict}
use Rattle.views.specs.View.{view_of}
use Rattle.views.specs.Held.{view_is}
use Rattle.engine.specs.declared.Answer.{Answer}
use Rattle.engine.specs.declared.Refusal.{Refusal}
use Rattle.engine.specs.declared.Answer.TheVariants.{Taken, Signed, Entered, Delivered, Left, Quiet}
use Rattle.engine.specs.Meaning.{answer_is, refusal_is}
use Rattle.pool.specs.Pool.{record_in}
use Rattle.host.specs.Memory.{controller_at}
use Rattle.host.specs.Host.{answer_number, value_number, notice_number, set_number}
use Rattle.guarantee.specs.Hosts.{Host, HostRun, HostRuns, said, HostAnswers, host_calls}
use Rattle.guarantee.specs.Calls.{Engine, EngineCalls, EngineWaits, EngineRun}
use Rattle.guarantee.proofs.Laws.{refusal-at}
use Rattle.guarantee.proofs.Calls.{agrees, answers}

-- ---- what the numbers say is what the engine answered

-- a view of the ring is that of its word
view-of-word : (v : View) → T (is_view controllers v) → view_of (v.joined + v.left * 4294967296) ≡ v
unfolding view_of
view-of-word v t = go (fits t).joined (fits t).left
  where
    go : v.joined < 65536 → v.left < 65536 → view_of (v.joined + v.left * 4294967296) ≡ v
    go p q =
        let x : (v.joined + v.left * 4294967296) % 4294967296 ≡ v.joined = omega arith in
        let z : (v.joined + v.left * 4294967296) / 4294967296 ≡ v.left = omega arith in
        let w : v.left % 4294967296 ≡ v.left = omega arith in
        let y : (v.joined + v.left * 4294967296) / 4294967296 % 4294967296 ≡ v.left = ap (λ n. n % 4294967296) z ∙ w in
        ap₂ (λ j l. record { joined = j; left = l }) x y

-- (a view that is entered is one of the ring)
answer-said : (W : List ℕ) (a : Result Answer Refusal) → ((v : View) → answer_is W a ≡ controller.entered v → T (is_view controllers v)) → said W (answer_number a) (value_number a) (notice_number a) (set_number a) ≡ answer_is W a
unfolding said answer_number value_number answer_is
answer-said W (Ok Taken) f = refl
answer-said W (Ok (Signed n)) f = refl
answer-said W (Ok (Entered v)) f = ap controller.entered (view-of-word (view_is v) (f (view_is v) refl))
answer-said W (Ok (Delivered i m who)) f = refl
answer-said W (Ok Left) f = refl
answer-said W (Ok Quiet) f = refl
answer-said W (Err q) f = ap controller.refused (refusal-at (refusal_is q))

-- ---- one controller

same-call : {k : ℕ} {c d : Call} {e : _} → e ≡ some (call k c) → e ≡ some (call k d) → c ≡ d
same-call p q = cc

module _ {run : Run} (is : IsRun run) {k : ℕ} (ok : T (run.follows k)) {h : ℕ → Host} (host : HostRun run k h) where
  -- what the engine answered last, before event n
  pub told_by : (n : ℕ) → Next is k n → Result Answer Refusal → Result Answer Refusal
  told_by n (acts c e _) a = (host.called n c e).called.told
  told_by n (waits _ _) a = a

  pub told : ℕ → Result Answer Refusal
  told zero = host.started.called.told
  told (suc n) = told_by n (next is k ok n) (told n)

  abbrev pub engine_at : ℕ → Engine
  engine_at n = record { pool = (h n).pool; ids = (h n).ids; last = record { answer = told n; controller = controller_at (h n).fields } }

  pub engine-run : EngineRun run k engine_at
  unfolding told_by told
  engine-run = record {
    fresh = record { pool = host.fresh.pool; ids = host.fresh.ids; last = record { answer = Ok Quiet; controller = controller_at host.fresh.fields } };
    unset = host.unset.controller;
    started = let s = host.started in record { left = s.left; called = s.called.called; grows = s.grows };
    room = host.room;
    called = λ n c e. by_call n c e (next is k ok n);
    others = λ n f. waiting n f (next is k ok n);
  }
    where
      after : (n : ℕ) → Next is k n → Engine
      after n x = record { pool = (h (suc n)).pool; ids = (h (suc n)).ids; last = record { answer = told_by n x (told n); controller = controller_at (h (suc n)).fields } }

      by_call : (n : ℕ) (c : Call) → event run n ≡ some (call k c) → (x : Next is k n) → EngineCalls (engine_at n) c (after n x)
      by_call n c e (acts d f y) =
          let s = host.called n d f in
          subst (λ b. EngineCalls (engine_at n) b (after n (acts d f y))) (same-call f e) (record { left = s.left; called = s.called.called; grows = s.grows })
      by_call n c e (waits _ f) = absurd (f c e)

      waiting : (n : ℕ) → ((c : Call) → ¬ (event run n ≡ some (call k c))) → (x : Next is k n) → EngineWaits (engine_at n) (after n x)
      waiting n f (acts c e _) = absurd (f c e)
      waiting n f (waits _ _) =
          let w = host.others n f in
          record { last = ap (λ F. record { answer = told n; controller = controller_at F }) w.fields; ids = w.ids; grows = w.grows }

  -- the host got the numbers of what the engine answered
  numbers : (n : ℕ) (c : Call) → event run n ≡ some (call k c)
      → ((h (suc n)).answer ≡ answer_number (told (suc n))) × ((h (suc n)).value ≡ value_number (told (suc n))) × ((h (suc n)).notice ≡ notice_number (told (suc n))) × ((h (suc n)).set ≡ set_number (told (suc n)))
  unfolding told_by told
  numbers n c e = go (next is k ok n)
    where
      each : {a b c d e f : ℕ} → a ∷ b ∷ c ∷ [] ≡ d ∷ e ∷ f ∷ [] → (a ≡ d) × (b ≡ e) × (c ≡ f)
      each p = (cc, cc, cc)

      go : (x : Next is k n)
          → ((h (suc n)).answer ≡ answer_number (told_by n x (told n))) × ((h (suc n)).value ≡ value_number (told_by n x (told n))) × ((h (suc n)).notice ≡ notice_number (told_by n x (told n)))
          × ((h (suc n)).set ≡ set_number (told_by n x (told n)))
      go (acts d f _) = let s = host.called n d f in let (p, q, i) = each s.called.valued in (s.called.answered, p, q, i)
      go (waits _ f) = absurd (f c e)

  -- so they say what the run's turn answers
  pub said-so : (n minute : ℕ) → event run n ≡ some (call k (turn_call minute)) → said (h (suc n)).pool (h (suc n)).answer (h (suc n)).value (h (suc n)).notice (h (suc n)).set ≡ (returned run k (suc n)).answer
  said-so n minute e =
      let a = answers is ok engine-run n minute e in
      let (p, q, i, j) = numbers n (turn_call minute) e in
      ap₂ (λ f x. f x) (ap₂ (λ f x. f x) (ap₂ (said (h (suc n)).pool) p q) i) j ∙ answer-said (h (suc n)).pool (told (suc n)) (λ v f. entered-view v (record { minute = minute; is_turn = e; answers = sym a ∙ f })) ∙ a
    where
      entered-view : (v : View) → TurnAnswers run n k (controller.entered v) → T (is_view controllers v)
      entered-view v t = let (H, s, q) = entered-top is ok t in subst (λ u. T (is_view controllers u)) q (top-is-view is s)

-- ---- the promises

module _ {run : Run} (is : IsRun run) (h : ℕ → ℕ → Host) (hosts : HostRuns run h) where
  there : (n k : ℕ) (a : controller.Answer) → T (run.follows k) → HostAnswers run h n k a → TurnAnswers run n k a
  there n k a ok t = record { minute = t.minute; is_turn = t.is_turn; answers = sym (said-so is ok (hosts k ok) n t.minute t.is_turn) ∙ t.says }

  back : (n k : ℕ) (s : Stmt) → T (run.follows k) → TurnAnswers run n k (controller.signed s) → HostAnswers run h n k (controller.signed s)
  back n k s ok t = record { minute = t.minute; is_turn = t.is_turn; says = said-so is ok (hosts k ok) n t.minute t.is_turn ∙ t.answers }

  same : (k n : ℕ) → T (run.follows k) → record_of run k n ≡ record_in (h k n).pool (h k n).ids
  same k n ok = sym (agrees is ok (engine-run is ok (hosts k ok)) n).statements

  -- WHAT A HOST IS TOLD KEEPS THE PROMISES
  pub hosts-keep : Promises (host_calls run h)
  hosts-keep = carried (observed run) (HostAnswers run h) (λ k n. record_in (h k n).pool (h k n).ids) there back same (promises is)

  -- each delivered set that it is told is the one behind its store quorum
  pub hosts-sets : DeliveredSets (host_calls run h)
  hosts-sets = carried-sets (observed run) (HostAnswers run h) (λ k n. record_in (h k n).pool (h k n).ids) there back same (delivered-sets is)

  -- and no turn is refused with 7
  pub hosts-no-conflict : NoConflict (host_calls run h)
  hosts-no-conflict = carried-no-conflict (observed run) (HostAnswers run h) (λ k n. record_in (h k n).pool (h k n).ids) there back same (no-conflict is)
