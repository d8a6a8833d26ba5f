-- A run in what the exported calls tell a host, in numbers (document 01, "A run").
-- Assumes nothing.
use Rattle.std.specs.Prelude.{◌≡◌, List, [], ◌∷◌, ℕ, suc, T, eqb, get_or, if◌then◌else◌}
use Rattle.std.proofs.Math.Option.{some}
use Rattle.protocol.specs.Controller.{Answer, taken, signed, entered, delivered, left, quiet, refused, Refusal, bad_setup, bad_statement, repeated, full, bad_request, many_candidates, conflict, out_of_place, unknown_notice, bad_window, bad_minute}
use Rattle.protocol.specs.Pool.{has_room}
use Rattle.protocol.specs.Run.{Call, setup_call, turn_call, call, Run, ring, event, statements}
use Rattle.protocol.specs.Promises.{Observed}
use Rattle.views.specs.View.{view_of}
use Rattle.pool.specs.Pool.{stmt_at, pool_of, record_in, Grows}
use Rattle.host.specs.Host.{Fresh, HostCalled}

-- What a host has of one controller: the words of its pool, the controller's words and the numbers of its record, and the answer, the value, the notice and the set that the last call on it told.
pub record Host : Type 0 where
  pub pool : List ℕ
  pub fields : List ℕ
  pub ids : List ℕ
  pub answer : ℕ
  pub value : ℕ
  pub notice : ℕ
  pub set : ℕ

-- A call took the host from h to h'. After it the host may have put statements into the pool.
pub record HostCalls (h : Host) (k : Call) (h' : Host) : Type 0 where
  pub left : List ℕ
  pub called : HostCalled h.pool h.fields h.ids k h'.answer (h'.value ∷ h'.notice ∷ h'.set ∷ []) left h'.fields h'.ids
  pub grows : Grows left h'.pool

-- No call took place: the pool alone may have grown.
pub record HostWaits (h h' : Host) : Type 0 where
  pub fields : h'.fields ≡ h.fields
  pub ids : h'.ids ≡ h.ids
  pub grows : Grows h.pool h'.pool

-- The calls on controller k, where h n is what the host has of it before event n.
pub record HostRun (run : Run) (k : ℕ) (h : ℕ → Host) : Type 0 where
  pub fresh : Host
  pub unset : Fresh fresh.fields fresh.ids
  pub started : HostCalls fresh (setup_call k run.setting) (h 0)
  pub room : (n : ℕ) (c : Call) → event run n ≡ some (call k c) → run.room n ≡ has_room (pool_of (h n).pool)
  pub called : (n : ℕ) (c : Call) → event run n ≡ some (call k c) → HostCalls (h n) c (h (suc n))
  pub others : (n : ℕ) → ((c : Call) → ¬ (event run n ≡ some (call k c))) → HostWaits (h n) (h (suc n))

-- The calls on every rule-follower.
abbrev pub HostRuns : Run → (ℕ → ℕ → Host) → Type 0
HostRuns run h = (k : ℕ) → T (run.follows k) → HostRun run k (h k)

-- The refusal of a number, as `refusal_number` gives them.
abbrev pub refusal_of : ℕ → Refusal
refusal_of n = get_or (out_of_place ∷ bad_setup ∷ bad_statement ∷ repeated ∷ full ∷ bad_request ∷ many_candidates ∷ conflict ∷ out_of_place ∷ unknown_notice ∷ bad_window ∷ bad_minute ∷ []) n out_of_place

-- What an answer, a value, a notice and a set say: a statement by its number in the pool W, a view by its word, a payload as it is, a refusal by its number. The notice and the set are
-- those of a delivery, the set with bit k for controller k.
unfoldable pub said : List ℕ → ℕ → ℕ → ℕ → ℕ → Answer
said W answer value notice set =
    if eqb answer 0 then taken else if eqb answer 1 then signed (stmt_at W value) else if eqb answer 2 then entered (view_of value)
    else if eqb answer 3 then delivered notice value set else if eqb answer 4 then left else if eqb answer 5 then quiet else refused (refusal_of value)

-- Event n is a turn of controller k, and the numbers that the host got say a.
pub record HostAnswers (run : Run) (h : ℕ → ℕ → Host) (n k : ℕ) (a : Answer) : Type 0 where
  pub minute : ℕ
  pub is_turn : event run n ≡ some (call k (turn_call minute))
  pub says : said (h k (suc n)).pool (h k (suc n)).answer (h k (suc n)).value (h k (suc n)).notice (h k (suc n)).set ≡ a

-- The run as a host sees it.
abbrev pub host_calls : Run → (ℕ → ℕ → Host) → Observed
host_calls run h = record {
  follows = run.follows;
  ring = ring run;
  senders = run.setting.senders;
  statements = statements run;
  Answers = HostAnswers run h;
  record_of = λ k n. record_in (h k n).pool (h k n).ids;
}
