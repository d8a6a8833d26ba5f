-- A run in what the engine answers and returns (document 01, "A run").
-- Assumes nothing.
use Rattle.std.specs.Prelude.{◌≡◌, List, ℕ, suc, T}
use Rattle.std.proofs.Math.Option.{some}
use Rattle.protocol.specs.Controller.{Answer, not_set_up}
use Rattle.protocol.specs.Pool.{has_room}
use Rattle.protocol.specs.Run.{Call, setup_call, turn_call, call, Run, ring, event, statements}
use Rattle.protocol.specs.Promises.{Observed}
use Rattle.pool.specs.Pool.{record_in, pool_of, Grows}
use Rattle.engine.specs.Meaning.{controller_is, Came, answer_is}
use Rattle.engine.specs.Promise.{Called}

-- What there is of one engine: the words of its pool, the numbers of its record, and what the last call on it returned.
pub record Engine : Type 0 where
  pub pool : List ℕ
  pub ids : List ℕ
  pub last : Came

-- A call took the engine from e to e'. After it the host may have put statements into the pool.
pub record EngineCalls (e : Engine) (k : Call) (e' : Engine) : Type 0 where
  pub left : List ℕ
  pub called : Called e.pool e.ids e.last.controller k e'.last left e'.ids
  pub grows : Grows left e'.pool

-- No call took place: the pool alone may have grown.
pub record EngineWaits (e e' : Engine) : Type 0 where
  pub last : e'.last ≡ e.last
  pub ids : e'.ids ≡ e.ids
  pub grows : Grows e.pool e'.pool

-- The calls on controller k, where e n is its engine before event n.
pub record EngineRun (run : Run) (k : ℕ) (e : ℕ → Engine) : Type 0 where
  -- "One taken setup starts every rule-follower": the first call, on a controller that is not set up, over any pool and record.
  pub fresh : Engine
  pub unset : controller_is fresh.last.controller ≡ not_set_up
  pub started : EngineCalls fresh (setup_call k run.setting) (e 0)
  -- What the run says of the pool's room is asked at the calls on k alone: controllers may share a pool or have one each.
  pub room : (n : ℕ) (c : Call) → event run n ≡ some (call k c) → run.room n ≡ has_room (pool_of (e n).pool)
  -- "Each call gets the controller and record that the last call on that rule-follower returned".
  pub called : (n : ℕ) (c : Call) → event run n ≡ some (call k c) → EngineCalls (e n) c (e (suc n))
  -- "nobody else writes them meanwhile": another event may put statements into the pool.
  pub others : (n : ℕ) → ((c : Call) → ¬ (event run n ≡ some (call k c))) → EngineWaits (e n) (e (suc n))

-- The calls on every rule-follower.
abbrev pub EngineRuns : Run → (ℕ → ℕ → Engine) → Type 0
EngineRuns run e = (k : ℕ) → T (run.follows k) → EngineRun run k (e k)

-- Event n is a turn of controller k, and the engine answered a. A signed statement is answered by its number in the pool.
pub record EngineAnswers (run : Run) (e : ℕ → ℕ → Engine) (n k : ℕ) (a : Answer) : Type 0 where
  pub minute : ℕ
  pub is_turn : event run n ≡ some (call k (turn_call minute))
  pub answers : answer_is (e k (suc n)).pool (e k (suc n)).last.answer ≡ a

-- The run as it is seen in what the engine answers and returns.
abbrev pub engine_calls : Run → (ℕ → ℕ → Engine) → Observed
engine_calls run e = record {
  follows = run.follows;
  ring = ring run;
  senders = run.setting.senders;
  statements = statements run;
  Answers = EngineAnswers run e;
  record_of = λ k n. record_in (e k n).pool (e k n).ids;
}
