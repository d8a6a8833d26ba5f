-- The premises can be met: a run of two rule-followers, each with a pool of its own, in which the calls are the engine's.
-- Controller 0 prepares 7, both ack and store it, and both deliver it. Their acks have different numbers in the two pools.
-- Assumes nothing.
use Rattle.std.specs.Prelude.{Result, Ok}
use mathlib.Core.Path.{◌≡◌, refl, sym, ap, subst, ◌∙◌}
use mathlib.Core.Bool.{Bool, true, false, not, ◌&&◌}
use mathlib.Core.List.{List, [], ◌∷◌}
use mathlib.Core.Option.{Option, some, none}
use Prim.Native.Nat.{ℕ, zero, suc, ◌<◌}
use native.Mathlib.Omega.{arith}
use lib.Dec.{T as Prop, ltb, eqb-suc-zero}
use lib.ListN.{get_or, replicate}
use Rattle.protocol.specs.Sets.{bit, one}
use Rattle.protocol.specs.Lists.{all, when, list_of, put}
use Rattle.protocol.specs.View.{View}
use Rattle.protocol.specs.History.{last, top}
use Rattle.protocol.specs.Statement as statement
use Rattle.protocol.specs.Statement.{Stmt, unbound, bound, is_kind, prepare, ack, store}
use Rattle.protocol.specs.Evidence.{Sealed, start, agreed}
use Rattle.protocol.specs.Controller as controller
use Rattle.protocol.specs.Controller.{signed, delivered}
use Rattle.protocol.specs.Call.{initial_view}
use Rattle.protocol.specs.Pool.{number_of, pooled, has_room}
use Rattle.protocol.specs.Run.{Run, setup_call, send_call, add_call, turn_call, Event, call, ring, event, signed_by, statements, FewBreakers, IsRun}
use Rattle.protocol.specs.Promises.{Promises}
use Rattle.protocol.proofs.Says.{says-self, says-and, says-not, says-leb, says_all}
use Rattle.protocol.proofs.Bits.{bit-zero}
use Rattle.protocol.proofs.Decided.{says-kind}
use Rattle.protocol.proofs.Quorums.{someone}
use Rattle.examples.proofs.Opened.{plain, opened}
use Rattle.examples.proofs.Tested.{setup_test, event_test, call_test, add_test, between, between-at, all-signed, tested}
use Rattle.views.specs.Held.{view_is, views_is}
use Rattle.views.specs.declared.View as held
use Rattle.statements.specs.declared.Binding.TheVariants.{Unbound, Bound}
use Rattle.statements.specs.Block.{binding_is}
use Rattle.evidence.specs.declared.Notice.{Notice}
use Rattle.evidence.specs.Notices.{senders_of, binding_held}
use Rattle.pool.specs.Pool.{stmt_at}
use Rattle.windows.specs.Windows.{windows_in}
use Rattle.engine.specs.declared.Controller.{Controller}
use Rattle.engine.specs.declared.Answer.{Answer}
use Rattle.engine.specs.declared.Refusal.{Refusal}
use Rattle.engine.specs.declared.Answer.TheVariants.{Taken, Signed, Delivered, Quiet}
use Rattle.engine.specs.Meaning.{controller_is, answer_is}
use Rattle.engine.specs.Promise.{change_of}
use Rattle.guarantee.specs.Calls.{Engine, EngineRuns, EngineAnswers, engine_calls}
use Rattle.guarantee.proofs.Calls.{calls-keep}
use Rattle.guarantee.proofs.Memory.{fits, within, stmt-at}
use Rattle.guarantee.proofs.Computed.{State, engine_in, allowed, computed, claimed, Path, state_at, all_allowed, engine-run}

-- The first and only view.
abbrev two : View
two = initial_view 3

abbrev prepared : Stmt
prepared = prepare 0 0 7

abbrev acked : ℕ → Stmt
acked k = ack k two 0 7

abbrev stored : ℕ → Stmt
stored k = store k two 0 7

abbrev events : List Event
events =
    call 0 (send_call 0 7) ∷ call 0 (turn_call 0)
    ∷ call 1 (add_call prepared)
    ∷ call 0 (turn_call 0)
    ∷ call 1 (turn_call 0) ∷ call 1 (add_call (acked 0))
    ∷ call 0 (add_call (acked 1)) ∷ call 0 (turn_call 0)
    ∷ call 1 (turn_call 0)
    ∷ call 0 (add_call (stored 1)) ∷ call 0 (turn_call 0)
    ∷ call 1 (add_call (stored 0)) ∷ call 1 (turn_call 0) ∷ []

abbrev pub run : Run
run = record { follows = λ k. ltb k 2; setting = plain 3 (0 ∷ []); events = events; room = λ n s. true }

-- ---- the states of the two controllers

abbrev nobody : held.View
nobody = record { joined = 0; left = 0 }

abbrev both_joined : held.View
both_joined = record { joined = 3; left = 0 }

-- ---- what a controller has of notice 0: whether 7 is to be sent, is bound, is delivered; in memory, and what that means

abbrev free : Notice
free = record { binding = Unbound }

abbrev sends_by : Bool → List ℕ
sends_by true = 7 ∷ replicate 63 0
sends_by false = replicate 64 0

abbrev asked_by : Bool → ℕ → Option ℕ
asked_by true = put 0 (some 7) (λ i. none)
asked_by false = λ i. none

abbrev held_by : Bool → List Notice
held_by true = record { binding = Bound 7 } ∷ replicate 63 free
held_by false = replicate 64 free

abbrev bound_by : Bool → ℕ → statement.Binding
bound_by true = put 0 (bound 7) (λ i. unbound)
bound_by false = λ i. unbound

abbrev done_by : Bool → ℕ → Bool
done_by true = put 0 true (λ i. false)
done_by false = λ i. false

all_same : {A : Type 0} (n i : ℕ) (a : A) → get_or (replicate n a) i a ≡ a
all_same zero i a = refl
all_same (suc n) zero a = refl
all_same (suc n) (suc i) a = all_same n i a

asked_is : (x : Bool) → (λ i. when (bit (one x) i) (get_or (sends_by x) i 0)) ≡ asked_by x
unfolding bit put
asked_is x j i = at x i j
  where
    at : (x : Bool) (i : ℕ) → when (bit (one x) i) (get_or (sends_by x) i 0) ≡ asked_by x i
    at false i = rw (bit-zero i) refl
    at true zero = refl
    at true (suc i) = rw (bit-zero i, eqb-suc-zero i) refl

held-is : (x : Bool) → (λ i. binding_held (held_by x) i) ≡ bound_by x
unfolding binding_held put
held-is x j i = at x i j
  where
    at : (x : Bool) (i : ℕ) → binding_held (held_by x) i ≡ bound_by x i
    at false i = ap (λ (n : Notice). binding_is n.binding) (all_same 64 i free)
    at true zero = refl
    at true (suc i) = ap (λ (n : Notice). binding_is n.binding) (all_same 63 i free) ∙ rw (eqb-suc-zero i) refl

done-is : (x : Bool) → (λ i. bit (one x) i) ≡ done_by x
unfolding bit put
done-is x j i = at x i j
  where
    at : (x : Bool) (i : ℕ) → bit (one x) i ≡ done_by x i
    at false i = bit-zero i
    at true zero = refl
    at true (suc i) = rw (bit-zero i, eqb-suc-zero i) refl

-- A controller that has entered the first n views of an array, which begins with its initial view.
abbrev controller_with : Bool → ℕ → held.View → ℕ → Bool → Bool → Bool → Controller
controller_with ready k init n asked binds done = record {
  ready = ready;
  number = k;
  init = init;
  notices = 1;
  senders = replicate 64 0;
  entered = record { views = init ∷ replicate 15 nobody; len = n };
  held = held_by binds;
  sends = sends_by asked;
  delivered = one done;
  requested = one asked;
  joining = false;
  leaving = false;
  windows = 0;
  times = replicate 8 0;
}

abbrev meaning_with : Bool → ℕ → View → List View → Bool → Bool → Bool → controller.Controller
meaning_with ready k init entered asked binds done = record {
  is_set_up = ready;
  number = k;
  ring = record { width = 16; init = init };
  senders = 0 ∷ [];
  windows = [];
  entered = entered;
  binding = bound_by binds;
  delivered = done_by done;
  join_requested = false;
  leave_requested = false;
  send_requested = asked_by asked;
}

means-so : (ready : Bool) (k : ℕ) (init : held.View) (n : ℕ) (asked binds done : Bool)
    → controller_is (controller_with ready k init n asked binds done) ≡ meaning_with ready k (view_is init) (views_is (record { views = init ∷ replicate 15 nobody; len = n })) asked binds done
unfolding controller_is senders_of windows_in list_of
means-so ready k init n asked binds done i = record {
  is_set_up = ready;
  number = k;
  ring = record { width = 16; init = view_is init };
  senders = 0 ∷ [];
  windows = [];
  entered = views_is (record { views = init ∷ replicate 15 nobody; len = n });
  binding = held-is binds i;
  delivered = done-is done i;
  join_requested = false;
  leave_requested = false;
  send_requested = asked_is asked i;
}

-- Before the setup.

pub fresh-means : controller_is (controller_with false 0 nobody 0 false false false) ≡ controller.not_set_up
unfolding views_is list_of
fresh-means = means-so false 0 nobody 0 false false false

abbrev fresh : State
fresh = record { left = []; more = []; answer = Ok Quiet; controller = controller_with false 0 nobody 0 false false false; meaning = controller.not_set_up; means = fresh-means; ids = [] }

-- Controller k with whether 7 is to be sent, is bound and is delivered; then the pool, what the host put into it, the answer, and the record's numbers.

pub state-means : (k : ℕ) (asked binds done : Bool) → controller_is (controller_with true k both_joined 1 asked binds done) ≡ meaning_with true k two (two ∷ []) asked binds done
unfolding views_is list_of
state-means k asked binds done = means-so true k both_joined 1 asked binds done

abbrev state : ℕ → Bool → Bool → Bool → List Stmt → List Stmt → Result Answer Refusal → List ℕ → State
state k asked binds done left more answer ids = record {
  left = left;
  more = more;
  answer = answer;
  controller = controller_with true k both_joined 1 asked binds done;
  meaning = meaning_with true k two (two ∷ []) asked binds done;
  means = state-means k asked binds done;
  ids = ids;
}

-- Controller 0 after the setup, and after each event on it.

abbrev zero0 : State
zero0 = state 0 false false false [] [] (Ok Taken) []

abbrev zero1 : State
zero1 = state 0 true false false [] [] (Ok Taken) []

abbrev zero2 : State
zero2 = state 0 true false false (prepared ∷ []) [] (Ok (Signed 0)) (0 ∷ [])

abbrev zero4 : State
zero4 = state 0 true true false (prepared ∷ acked 0 ∷ []) [] (Ok (Signed 1)) (0 ∷ 1 ∷ [])

abbrev zero7 : State
zero7 = state 0 true true false (prepared ∷ acked 0 ∷ acked 1 ∷ []) [] (Ok Taken) (0 ∷ 1 ∷ 2 ∷ [])

abbrev zero8 : State
zero8 = state 0 true true false (prepared ∷ acked 0 ∷ acked 1 ∷ stored 0 ∷ []) [] (Ok (Signed 3)) (0 ∷ 1 ∷ 2 ∷ 3 ∷ [])

abbrev pool_zero : List Stmt
pool_zero = prepared ∷ acked 0 ∷ acked 1 ∷ stored 0 ∷ stored 1 ∷ []

abbrev zero10 : State
zero10 = state 0 true true false pool_zero [] (Ok Taken) (0 ∷ 1 ∷ 2 ∷ 3 ∷ 4 ∷ [])

abbrev zero11 : State
zero11 = state 0 true true true pool_zero [] (Ok (Delivered 0 7 3)) (0 ∷ 1 ∷ 2 ∷ 3 ∷ 4 ∷ [])

-- Controller 1. Its host puts both statements of 0 into the pool before they are added: the ack right after a call on 1, the store while 0 is called.

abbrev one0 : State
one0 = state 1 false false false [] [] (Ok Taken) []

abbrev one3 : State
one3 = state 1 false false false (prepared ∷ []) [] (Ok Taken) (0 ∷ [])

abbrev one5 : State
one5 = state 1 false true false (prepared ∷ acked 1 ∷ []) (acked 0 ∷ []) (Ok (Signed 1)) (0 ∷ 1 ∷ [])

abbrev one6 : State
one6 = state 1 false true false (prepared ∷ acked 1 ∷ acked 0 ∷ []) [] (Ok Taken) (0 ∷ 1 ∷ 2 ∷ [])

abbrev one9 : State
one9 = state 1 false true false (prepared ∷ acked 1 ∷ acked 0 ∷ stored 1 ∷ []) [] (Ok (Signed 3)) (0 ∷ 1 ∷ 2 ∷ 3 ∷ [])

abbrev one11 : State
one11 = state 1 false true false (prepared ∷ acked 1 ∷ acked 0 ∷ stored 1 ∷ []) (stored 0 ∷ []) (Ok (Signed 3)) (0 ∷ 1 ∷ 2 ∷ 3 ∷ [])

abbrev pool_one : List Stmt
pool_one = prepared ∷ acked 1 ∷ acked 0 ∷ stored 1 ∷ stored 0 ∷ []

abbrev one12 : State
one12 = state 1 false true false pool_one [] (Ok Taken) (0 ∷ 1 ∷ 2 ∷ 3 ∷ 4 ∷ [])

abbrev one13 : State
one13 = state 1 false true true pool_one [] (Ok (Delivered 0 7 3)) (0 ∷ 1 ∷ 2 ∷ 3 ∷ 4 ∷ [])

abbrev zeros : List State
zeros = zero1 ∷ zero2 ∷ zero2 ∷ zero4 ∷ zero4 ∷ zero4 ∷ zero7 ∷ zero8 ∷ zero8 ∷ zero10 ∷ zero11 ∷ zero11 ∷ zero11 ∷ []

abbrev ones : List State
ones = one0 ∷ one0 ∷ one3 ∷ one3 ∷ one5 ∷ one6 ∷ one6 ∷ one6 ∷ one9 ∷ one9 ∷ one11 ∷ one12 ∷ one13 ∷ []

-- ---- the calls are the engine's

zero-path : Path 0 (call 0 (setup_call 0 (plain 3 (0 ∷ []))) ∷ events) fresh (zero0 ∷ zeros)
unfolding opened number_of pooled has_room change_of fits within allowed computed claimed
zero-path = (refl, (refl, (refl, (refl, (refl, (refl, (refl, (refl, (refl, (refl, (refl, (refl, (refl, (refl, refl))))))))))))))

one-path : Path 1 (call 1 (setup_call 1 (plain 3 (0 ∷ []))) ∷ events) fresh (one0 ∷ ones)
unfolding opened number_of pooled has_room change_of fits within allowed computed claimed
one-path = (refl, (refl, (refl, (refl, (refl, (refl, (refl, (refl, (refl, (refl, (refl, (refl, (refl, (refl, refl))))))))))))))

follows-two : (k : ℕ) → Prop (run.follows k) → k < 2
follows-two k t = (says-leb {m = suc k} {n = 2}).sound t

abbrev states : ℕ → ℕ → State
states zero n = state_at zero0 zeros n
states (suc k) n = state_at one0 ones n

-- the engines
abbrev pub e : ℕ → ℕ → Engine
e k n = engine_in (states k n)

pub own-engines : EngineRuns run e
unfolding opened fits within allowed all_allowed
own-engines zero t = engine-run run 0 fresh zero0 zeros fresh-means zero-path tt (λ n x. refl)
own-engines (suc zero) t = engine-run run 1 fresh one0 ones fresh-means one-path tt (λ n x. refl)
own-engines (suc (suc k)) t = absurd (omega (arith, follows-two (suc (suc k)) t))

-- ---- it is a run

-- the event that signed what event n adds
source : ℕ → ℕ
source n = get_or (0 ∷ 0 ∷ 1 ∷ 0 ∷ 0 ∷ 3 ∷ 4 ∷ 0 ∷ 0 ∷ 8 ∷ 0 ∷ 7 ∷ 0 ∷ []) n 0

-- each event adds only what was signed, and signs no agree-history
right : ℕ → Bool
right n = add_test run source n (event run n) && all (λ s. not (is_kind 4 s)) (signed_by run n (event run n))

rights : Prop (between 0 13 right)
unfolding opened add_test call_test source between right
rights = tt

says-right : (n : ℕ) → n < 13 → Prop (add_test run source n (event run n)) × Prop (all (λ s. not (is_kind 4 s)) (signed_by run n (event run n)))
unfolding right
says-right n l = (says-and (says-self (add_test run source n (event run n))) (says-self (all (λ s. not (is_kind 4 s)) (signed_by run n (event run n))))).sound (between-at 0 13 right rights n (omega arith) (omega arith))

-- only the first history is sealed
few-break : (H : List View) → Sealed (ring run) (statements run) H → FewBreakers run (top (ring run) H)
unfolding opened
few-break H (start e) = subst (λ H. FewBreakers run (last two H)) (sym e) (omega arith)
few-break H (agreed g h i d c q) =
    let (k, (s, m, _, a)) = someone q in
    absurd (all-signed run {P = λ s. ¬ (s.kind ≡ 4)} (λ n l. (says_all (λ s. says-not (says-kind 4 s)) (signed_by run n (event run n))).sound (says-right n l).1) s m a.kind)

pub own-run : IsRun run
unfolding opened setup_test event_test
own-run = tested run source (λ k t. omega (arith, follows-two k t)) tt tt (λ n l. (says-right n l).0) few-break

-- ---- WHAT IS PROMISED OF THE ENGINE'S CALLS HOLDS OF IT

pub own-promises : Promises (engine_calls run e)
own-promises = calls-keep own-run e own-engines

-- and it says something: both engines answer that they deliver, with both behind the store quorum

pub zero-delivers : EngineAnswers run e 10 0 (delivered 0 7 3)
unfolding answer_is
zero-delivers = record { minute = 0; is_turn = refl; answers = refl }

pub one-delivers : EngineAnswers run e 12 1 (delivered 0 7 3)
unfolding answer_is
one-delivers = record { minute = 0; is_turn = refl; answers = refl }

-- what an engine prepared earlier, over the pool of 0, as the promise has it of the delivery over the pool of 1
pub own-integrity : (i : ℕ) × (i < 12) × EngineAnswers run e i 0 (signed prepared)
own-integrity = own-promises.integrity 0 12 1 7 tt (tt, (3, one-delivers))

-- the acks have other numbers in the two pools
pub own-numbers : (stmt_at (e 0 13).pool 1 ≡ acked 0) × (stmt_at (e 0 13).pool 2 ≡ acked 1) × (stmt_at (e 1 13).pool 1 ≡ acked 1) × (stmt_at (e 1 13).pool 2 ≡ acked 0)
unfolding opened fits
own-numbers = (stmt-at pool_zero tt 1 (omega arith), stmt-at pool_zero tt 2 (omega arith), stmt-at pool_one tt 1 (omega arith), stmt-at pool_one tt 2 (omega arith))
