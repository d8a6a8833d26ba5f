-- The calls of an engine from states that are written out: that they meet their contract then computes.
-- Assumes nothing.
use Rattle.std.specs.Prelude.{Result, Ok, Err}
use mathlib.Core.Path.{◌≡◌, refl, sym, ap, ap₂, subst, ◌∙◌}
use mathlib.Core.Bool.{Bool, true, false, ◌&&◌, ◌||◌, or-true}
use mathlib.Core.List.{List, [], ◌∷◌, ◌++◌, append-nil, map}
use mathlib.Core.Option.{some}
use Prim.Native.Nat.{ℕ, zero, suc, ◌<◌}
use native.Mathlib.Omega.{arith}
use lib.Dec.{T, eqb, ltb}
use lib.ListN.{length, get_elem?}
use borrow.Author.Tests.{lt-ltb}
use Rattle.protocol.specs.Lists.{any}
use Rattle.protocol.specs.Statement.{Stmt, same_stmt}
use Rattle.protocol.specs.Controller as controller
use Rattle.protocol.specs.Pool.{number_of, pooled, has_room}
use Rattle.protocol.specs.Run.{Call, setup_call, outcome, Event, call, signing, Run}
use Rattle.protocol.proofs.Says.{says-self, says-and, says-eqb, says-leb}
use Rattle.protocol.proofs.Found.{none≢some, some-injective}
use Rattle.engine.specs.declared.Controller.{Controller}
use Rattle.engine.specs.declared.Answer.{Answer}
use Rattle.engine.specs.declared.Refusal.{Refusal}
use Rattle.engine.specs.declared.Answer.TheVariants.{Taken, Signed, Entered, Delivered, Left, Quiet}
use Rattle.views.specs.Held.{view_is}
use Rattle.pool.specs.Changes.{PushedTo, Emptied}
use Rattle.pool.specs.Pool.{pool_of, Grows}
use Rattle.engine.specs.Meaning.{controller_is, Came, refusal_is, answer_is}
use Rattle.engine.specs.Promise.{Change, unchanged, emptied, grown, PoolAfter, NumbersAfter, IsRefused, Meets, change_of}
use Rattle.guarantee.specs.Calls.{Engine, EngineCalls, EngineRun}
use Rattle.guarantee.proofs.Memory.{at, memory, fits, numbers, within, short, stmt-at, pool-is, memory-more, grows, pushed, empty-again, few, record_is, all_in}

-- What there is of one controller after an event: the pool that the event left, what its host then put into it, what the last call on the controller answered, what the
-- controller that this returned means and what it is, and the numbers of its record. (What a controller has of each notice is a function of its number, which an array does not compute to.)
pub record State : Type 0 where
  pub left : List Stmt
  pub more : List Stmt
  pub answer : Result Answer Refusal
  pub meaning : controller.Controller
  pub controller : Controller
  pub means : controller_is controller ≡ meaning
  pub ids : List ℕ

abbrev pub pool_in : State → List Stmt
pool_in s = s.left ++ s.more

-- The engine of the state.
abbrev pub engine_in : State → Engine
engine_in s = record { pool = memory (pool_in s); ids = numbers s.ids; last = record { answer = s.answer; controller = s.controller } }

-- What an answer means over the pool P.
abbrev answer_in : List Stmt → Result Answer Refusal → controller.Answer
answer_in P (Ok Taken) = controller.taken
answer_in P (Ok (Signed n)) = controller.signed (at P n)
answer_in P (Ok (Entered v)) = controller.entered (view_is v)
answer_in P (Ok (Delivered i m who)) = controller.delivered i m who
answer_in P (Ok Left) = controller.left
answer_in P (Ok Quiet) = controller.quiet
answer_in P (Err r) = controller.refused (refusal_is r)

-- A call that is not refused, over the pool P, which is P' after it, answers a signed statement by its number in P.
abbrev numbered : List Stmt → List Stmt → Result Answer Refusal → Bool
numbered P P' (Ok Taken) = true
numbered P P' (Ok (Signed n)) = ltb n (length P') && eqb n (number_of (at P' n) P)
numbered P P' (Ok (Entered v)) = true
numbered P P' (Ok (Delivered i m who)) = true
numbered P P' (Ok Left) = true
numbered P P' (Ok Quiet) = true
numbered P P' (Err r) = false

-- What a change of the record makes of its numbers and of the pool P.

abbrev numbers_after : List Stmt → List ℕ → Change → List ℕ
numbers_after P l unchanged = l
numbers_after P l emptied = []
numbers_after P l (grown s) = l ++ (number_of s P ∷ [])

abbrev pool_after : List Stmt → Change → List Stmt
pool_after P unchanged = P
pool_after P emptied = P
pool_after P (grown s) = pooled s P

-- A record that is emptied had no numbers: its memory is then that of none.
abbrev begins : Change → List ℕ → Bool
begins unchanged l = true
begins emptied l = eqb (length l) 0
begins (grown s) l = true

-- The pool's statements and the record's numbers are allowed.
unfoldable pub allowed : List Stmt → List ℕ → Bool
allowed P l = fits P && within P l

-- What a call comes to, and whether its answer's number and what it leaves are right.
pub record Reckoning : Type 0 where
  pub outcome : controller.Outcome
  pub ids : List ℕ
  pub left : List Stmt
  pub right : Bool

-- By the protocol, for a call on the state s that is to give t; and by t.

unfoldable pub computed : State → Call → State → Reckoning
computed s k t =
    let o = outcome (has_room (pool_in s)) s.meaning (map (at (pool_in s)) s.ids) k in
    record {
      outcome = o;
      ids = numbers_after (pool_in s) s.ids (change_of k o.answer);
      left = pool_after (pool_in s) (change_of k o.answer);
      right = (numbered (pool_in s) t.left t.answer && begins (change_of k o.answer) s.ids) && allowed t.left t.ids;
    }

unfoldable pub claimed : State → Reckoning
claimed t = record {
  outcome = record { answer = answer_in t.left t.answer; controller = t.meaning; statements = map (at t.left) t.ids };
  ids = t.ids;
  left = t.left;
  right = true;
}

-- The call took the controller from s to t.
abbrev pub Acts : State → Call → State → Type 0
Acts s k t = computed s k t ≡ claimed t

-- Nothing was called: the pool alone may have grown.
abbrev pub Waits : State → State → Type 0
Waits s t = ◌≡◌ {A = Came × List ℕ × List Stmt} ((engine_in t).last, t.ids, t.left) ((engine_in s).last, s.ids, pool_in s)

-- ---- a call

module _ (P P' : List Stmt) (f : T (fits P)) (f' : T (fits P')) where
  answer-in : (a : Result Answer Refusal) → T (numbered P P' a) → answer_is (memory P') a ≡ answer_in P' a
  unfolding answer_is
  answer-in (Ok Taken) t = refl
  answer-in (Ok (Signed n)) t = ap controller.signed (stmt-at P' f' n ((says-and (says-leb {m = suc n} {n = length P'}) (says-self (eqb n (number_of (at P' n) P)))).sound t).0)
  answer-in (Ok (Entered v)) t = refl
  answer-in (Ok (Delivered i m who)) t = refl
  answer-in (Ok Left) t = refl
  answer-in (Ok Quiet) t = refl
  answer-in (Err _) t = elim t [ ]

  number_in : (a : Result Answer Refusal) → T (numbered P P' a) → (s : Stmt) → answer_in P' a ≡ controller.signed s → a ≡ Ok (Signed (number_of s (pool_of (memory P))))
  number_in (Ok (Signed n)) t s e =
      let q : at P' n ≡ s = cc in
      ap (λ i. Ok (Signed i)) (((says-and (says-self (ltb n (length P'))) (says-eqb {m = n} {n = number_of (at P' n) P})).sound t).1 ∙ ap₂ number_of q (sym (pool-is P f)))
  number_in (Ok Taken) t s e = absurd (let z : ◌≡◌ {A = ℕ} 0 1 = cc in omega arith)
  number_in (Ok (Entered v)) t s e = absurd (let z : ◌≡◌ {A = ℕ} 0 1 = cc in omega arith)
  number_in (Ok (Delivered i m who)) t s e = absurd (let z : ◌≡◌ {A = ℕ} 0 1 = cc in omega arith)
  number_in (Ok Left) t s e = absurd (let z : ◌≡◌ {A = ℕ} 0 1 = cc in omega arith)
  number_in (Ok Quiet) t s e = absurd (let z : ◌≡◌ {A = ℕ} 0 1 = cc in omega arith)
  number_in (Err _) t s e = elim t [ ]

  not-refused : (a : Result Answer Refusal) → T (numbered P P' a) → IsRefused (answer_in P' a) → ⊥
  not-refused (Err r) t i = t
  not-refused (Ok Taken) t i = elim i [ ]
  not-refused (Ok (Signed _)) t i = elim i [ ]
  not-refused (Ok (Entered _)) t i = elim i [ ]
  not-refused (Ok (Delivered _ _ _)) t i = elim i [ ]
  not-refused (Ok Left) t i = elim i [ ]
  not-refused (Ok Quiet) t i = elim i [ ]

  pool-after : (p : Change) → P' ≡ pool_after P p → PoolAfter (memory P) p (memory P')
  pool-after unchanged e = ap memory e
  pool-after emptied e = ap memory e
  pool-after (grown s) e = record {
    is = pool-is P' f' ∙ e ∙ ap (pooled s) (sym (pool-is P f));
    words = ap memory e ∙ memory-more P f s;
  }

  numbers_after_lem : (l l' : List ℕ) → length l < 512 → (p : Change) → T (begins p l) → l' ≡ numbers_after P l p → NumbersAfter (memory P) (numbers l) p (numbers l')
  numbers_after_lem l l' h unchanged t e = ap numbers e
  numbers_after_lem l l' h emptied t e = subst (λ k. Emptied (numbers l) (numbers k)) (sym e) (empty-again l ((says-eqb {m = length l} {n = 0}).sound t))
  numbers_after_lem l l' h (grown s) t e =
      subst (λ k. PushedTo (numbers l) (number_of s (pool_of (memory P))) (numbers k)) (ap (λ Q. l ++ (number_of s Q ∷ [])) (pool-is P f) ∙ sym e) (pushed l (number_of s (pool_of (memory P))) h)

allowed-parts : (P : List Stmt) (l : List ℕ) → T (allowed P l) → T (fits P) × T (within P l)
unfolding allowed
allowed-parts P l u = (says-and (says-self (fits P)) (says-self (within P l))).sound u

module _ (s t : State) (k : Call) (e : Acts s k t) (from : T (allowed (pool_in s) s.ids)) (to : T (allowed (pool_in t) t.ids)) where
  abbrev o : controller.Outcome
  o = outcome (has_room (pool_in s)) s.meaning (map (at (pool_in s)) s.ids) k

  right : (T (numbered (pool_in s) t.left t.answer) × T (begins (change_of k o.answer) s.ids)) × T (allowed t.left t.ids)
  unfolding computed claimed
  right = (says-and (says-and (says-self (numbered (pool_in s) t.left t.answer)) (says-self (begins (change_of k o.answer) s.ids))) (says-self (allowed t.left t.ids))).sound (subst T (sym (ap (λ d. d.right) e)) tt)

  meets : Meets (memory (pool_in s)) (numbers s.ids) s.controller o (change_of k o.answer) (engine_in t).last (memory t.left) (numbers t.ids)
  unfolding computed claimed
  meets =
      let (f, w) = allowed-parts (pool_in s) s.ids from in
      let ((n, b), u) = right in
      let (f', w') = allowed-parts t.left t.ids u in
      record {
        answer = answer-in (pool_in s) t.left f f' t.answer n ∙ ap (λ d. d.outcome.answer) (sym e);
        number = λ x h. number_in (pool_in s) t.left f f' t.answer n x (ap (λ d. d.outcome.answer) (sym e) ∙ h);
        controller = t.means ∙ ap (λ d. d.outcome.controller) (sym e);
        numbers = numbers_after_lem (pool_in s) t.left f f' s.ids t.ids (few (pool_in s) s.ids f w) (change_of k o.answer) b (ap (λ d. d.ids) (sym e));
        statements = λ _. (record_is t.left t.ids f' w' ∙ ap (λ d. d.outcome.statements) (sym e), all_in t.left t.ids f' w');
        pool = pool-after (pool_in s) t.left f f' (change_of k o.answer) (ap (λ d. d.left) (sym e));
        refused = λ i. absurd (not-refused (pool_in s) t.left f f' t.answer n (subst IsRefused (ap (λ d. d.outcome.answer) e) i));
      }

  pub calls : EngineCalls (engine_in s) k (engine_in t)
  calls =
      let (f, w) = allowed-parts (pool_in s) s.ids from in
      record {
        left = memory t.left;
        called = subst (λ o. Meets (memory (pool_in s)) (numbers s.ids) s.controller o (change_of k o.answer) (engine_in t).last (memory t.left) (numbers t.ids))
            (sym (ap₂ (λ Q X. outcome (has_room Q) (controller_is s.controller) X k) (pool-is (pool_in s) f) (record_is (pool_in s) s.ids f w)
            ∙ ap (λ c. outcome (has_room (pool_in s)) c (map (at (pool_in s)) s.ids) k) s.means)) meets;
        grows = grows t.left t.more (allowed-parts t.left t.ids right.1).0 (allowed-parts (pool_in t) t.ids to).0;
      }

-- ---- a run

-- Event e took the controller k from s to t.
abbrev Called? : Bool → State → Call → State → Type 0
Called? true s c t = Acts s c t
Called? false s c t = Waits s t

abbrev Passes : ℕ → Event → State → State → Type 0
Passes k (call j c) s t = Called? (eqb j k) s c t
Passes k (signing x) s t = Waits s t

-- The events took it from s through the states after it.
abbrev pub Path : ℕ → List Event → State → List State → Type 0
Path k [] s ts = ts ≡ []
Path k (e ∷ es) s [] = ⊥
Path k (e ∷ es) s (t ∷ ts) = Passes k e s t × Path k es t ts

-- The state before event n.
abbrev pub state_at : State → List State → ℕ → State
state_at s ts zero = s
state_at s [] (suc n) = s
state_at s (t ∷ ts) (suc n) = state_at t ts n

acted : (k : ℕ) (c : Call) (e : Event) (s t : State) → Passes k e s t → e ≡ call k c → Acts s c t
acted k c e s t p h = go (eqb k k) ((says-eqb {m = k} {n = k}).complete refl) (subst (λ e. Passes k e s t) h p)
  where
    go : (b : Bool) → T b → Called? b s c t → Acts s c t
    go true u p = p
    go false u p = elim u [ ]

waited : (k : ℕ) (e : Event) (s t : State) → Passes k e s t → ((c : Call) → ¬ (e ≡ call k c)) → Waits s t
waited k (signing x) s t p f = p
waited k (call j c) s t p f = go (eqb j k) refl p
  where
    go : (b : Bool) → eqb j k ≡ b → Called? b s c t → Waits s t
    go true e p = absurd (f c (ap (λ i. call i c) ((says-eqb {m = j} {n = k}).sound (subst T (sym e) tt))))
    go false e p = p

path-acts : (k : ℕ) (es : List Event) (s : State) (ts : List State) → Path k es s ts → (n : ℕ) (c : Call) → get_elem? es n ≡ some (call k c) → Acts (state_at s ts n) c (state_at s ts (suc n))
path-acts k [] s ts p n c h = absurd (none≢some h)
path-acts k (e ∷ es) s (t ∷ ts) (p, q) zero c h = acted k c e s t p (some-injective h)
path-acts k (e ∷ es) s (t ∷ ts) (p, q) (suc n) c h = path-acts k es t ts q n c h
path-acts k (e ∷ es) s [] p n c h = elim p [ ]

-- what an event leaves that is no call on k; past the end all stays as it is
abbrev Leaves : State → State → Type 0
Leaves s t = ((engine_in t).last ≡ (engine_in s).last) × (numbers t.ids ≡ numbers s.ids) × ((more : List Stmt) × (pool_in t ≡ pool_in s ++ more))

path-waits : (k : ℕ) (es : List Event) (s : State) (ts : List State) → Path k es s ts → (n : ℕ) → ((c : Call) → ¬ (get_elem? es n ≡ some (call k c))) → Leaves (state_at s ts n) (state_at s ts (suc n))
path-waits k [] s [] p zero f = (refl, refl, ([], sym (append-nil (pool_in s))))
path-waits k [] s [] p (suc n) f = (refl, refl, ([], sym (append-nil (pool_in s))))
path-waits k [] s (t ∷ ts) p n f = absurd (let z : ◌≡◌ {A = ℕ} 0 1 = cc in omega arith)
path-waits k (e ∷ es) s (t ∷ ts) (p, q) zero f = let w = waited k e s t p (λ c h. f c (ap some h)) in (ap (λ x. x.0) w, ap (λ x. numbers x.1) w, (t.more, ap (λ x. x.2 ++ t.more) w))
path-waits k (e ∷ es) s (t ∷ ts) (p, q) (suc n) f = path-waits k es t ts q n f
path-waits k (e ∷ es) s [] p n f = elim p [ ]

-- Every state is of allowed statements and numbers.
unfoldable pub all_allowed : State → List State → Bool
all_allowed s [] = allowed (pool_in s) s.ids
all_allowed s (t ∷ ts) = allowed (pool_in s) s.ids && all_allowed t ts

allowed_at : (s : State) (ts : List State) → T (all_allowed s ts) → (n : ℕ) → T (allowed (pool_in (state_at s ts n)) (state_at s ts n).ids)
unfolding all_allowed
allowed_at s [] u zero = u
allowed_at s [] u (suc n) = u
allowed_at s (t ∷ ts) u zero = ((says-and (says-self (allowed (pool_in s) s.ids)) (says-self (all_allowed t ts))).sound u).0
allowed_at s (t ∷ ts) u (suc n) = allowed_at t ts ((says-and (says-self (allowed (pool_in s) s.ids)) (says-self (all_allowed t ts))).sound u).1 n

has_room_lem : (P : List Stmt) → T (fits P) → (x : Stmt) → has_room P x ≡ true
unfolding has_room
has_room_lem P f x = ap (λ b. any (same_stmt x) P || b) (lt-ltb (length P) 512 (short P f)) ∙ or-true (any (same_stmt x) P)

module _ (run : Run) (k : ℕ) (fresh s : State) (ts : List State) where
  -- THE CALLS ON CONTROLLER k ARE THE ENGINE'S: its setup and then the run's events, over states that are written out
  pub engine-run : controller_is fresh.controller ≡ controller.not_set_up → Path k (call k (setup_call k run.setting) ∷ run.events) fresh (s ∷ ts)
      → T (all_allowed fresh (s ∷ ts)) → ((n : ℕ) (x : Stmt) → run.room n x ≡ true) → EngineRun run k (λ n. engine_in (state_at s ts n))
  engine-run e p u room = record {
    fresh = engine_in fresh;
    unset = e;
    started = called 0 (setup_call k run.setting) refl;
    room = λ n c _ i x. (room n x ∙ sym (has_room_lem _ (fit n) x) ∙ ap (λ P. has_room P x) (sym (pool-is _ (fit n)))) i;
    called = λ n c h. called (suc n) c h;
    others = λ n h.
        let (same, ids, (more, q)) = path-waits k all-events fresh (s ∷ ts) p (suc n) h in
        record {
          last = same;
          ids = ids;
          grows = subst (λ P. Grows (memory (pool_in (state_at s ts n))) (memory P)) (sym q) (grows (pool_in (state_at s ts n)) more (fit n) (subst (λ P. T (fits P)) q (fit (suc n))));
        };
  }
    where
      all-events : List Event
      all-events = call k (setup_call k run.setting) ∷ run.events

      called : (n : ℕ) (c : Call) → get_elem? all-events n ≡ some (call k c)
          → EngineCalls (engine_in (state_at fresh (s ∷ ts) n)) c (engine_in (state_at fresh (s ∷ ts) (suc n)))
      called n c h = calls (state_at fresh (s ∷ ts) n) (state_at fresh (s ∷ ts) (suc n)) c (path-acts k all-events fresh (s ∷ ts) p n c h) (allowed_at fresh (s ∷ ts) u n) (allowed_at fresh (s ∷ ts) u (suc n))

      fit : (n : ℕ) → T (fits (pool_in (state_at s ts n)))
      fit n = (allowed-parts (pool_in (state_at s ts n)) (state_at s ts n).ids (allowed_at fresh (s ∷ ts) u (suc n))).0
