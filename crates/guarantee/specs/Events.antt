-- The run that the lines of a schedule make up (document 01, "A run" and "Bench schedule").
-- Assumes nothing.
use Rattle.std.specs.Prelude.{Bool, true, false, not, ◌&&◌, List, [], ◌∷◌, ◌++◌, map, ℕ, zero, suc, ltb, length, get_or, if◌then◌else◌}
use Rattle.std.proofs.Math.Option.{Option, some, none}
use Rattle.std.proofs.Math.ListN.{get_elem?}
use Rattle.protocol.specs.Sets.{bit}
use Rattle.protocol.specs.View.{controllers}
use Rattle.protocol.specs.Statement.{Stmt, no_stmt}
use Rattle.protocol.specs.Controller.{Answer, taken, signed, entered, delivered, left, quiet, refused}
use Rattle.protocol.specs.Pool.{has_room}
use Rattle.protocol.specs.Call.{Setup}
use Rattle.protocol.specs.Run.{Call, join_call, leave_call, send_call, add_call, turn_call, Event, call, signing, Run, signed_in}
use Rattle.schedule.specs.Line.{Line, setup, join, leave, send, give, all, turn, lie, no_statement}
use Rattle.bench.specs.Bench.{Bench, new_bench, step, missing, give_all, turn_at, lie_of}

-- "A run parts the controllers into rule-followers and rule-breakers": rule-breakers are those in the setup's faulty set.
unfoldable pub follower : ℕ → ℕ → Bool
follower faulty k = ltb k controllers && not (bit faulty k)

abbrev pub is_taken : Answer → Bool
is_taken taken = true
is_taken (signed s) = false
is_taken (entered v) = false
is_taken (delivered i m who) = false
is_taken left = false
is_taken quiet = false
is_taken (refused r) = false

-- An event, and the pool when it comes.
pub record Occurrence : Type 0 where
  pub event : Event
  pub pool : List Stmt

module _ (b : Bench) where
  -- "One taken setup starts every rule-follower": before it there are none.
  unfoldable pub is_follower : ℕ → Bool
  is_follower k = b.is_set_up && follower b.faulty k

  -- "a call on a rule-follower": on a rule-breaker it is no event.
  unfoldable pub call_on : ℕ → Call → List Event
  call_on k c = if is_follower k then call k c ∷ [] else []

  -- The events of a line. "Give adds statement n to k's record": an addition, where the pool has n. "all adds every missing one in rising number":
  -- an addition for each, where it is taken. "the signing, by a rule-breaker as origin": a lie that is taken, and what a turn of a rule-breaker signs.
  -- A line that is unreadable or a further setup is no event.
  unfoldable pub events_of : Option Line → List Event
  events_of none = []
  events_of (some (setup s faulty)) = []
  events_of (some (join k)) = call_on k join_call
  events_of (some (leave k)) = call_on k leave_call
  events_of (some (send k notice payload)) = call_on k (send_call notice payload)
  events_of (some (give k n)) = if ltb n (length b.pool) then call_on k (add_call (get_or b.pool n no_stmt)) else []
  events_of (some (all k)) = if is_follower k && is_taken (give_all b k).reply.answer then map (λ s. call k (add_call s)) (missing b k) else []
  events_of (some (turn k minute)) = if is_follower k then call k (turn_call minute) ∷ [] else map signing (signed_in (turn_at b k minute).reply.answer)
  events_of (some (lie s)) = if is_taken (lie_of b s).reply.answer then signing s ∷ [] else []
  events_of (some no_statement) = []

  -- After the last line nothing changes, and nothing comes.

  unfoldable pub after_line : Option (Option Line) → Bench
  after_line none = b
  after_line (some l) = (step b l).bench

  unfoldable pub occurs : Option (Option Line) → List Occurrence
  occurs none = []
  occurs (some l) = map (λ e. record { event = e; pool = b.pool }) (events_of l)

-- The pool has room for s when the event comes.
unfoldable pub room_at : Option Occurrence → Stmt → Bool
room_at none s = false
room_at (some o) s = has_room o.pool s

-- The run in which these come, where the setup that is taken names this and has this faulty set.
abbrev pub run_with : List Occurrence → Setup → ℕ → Run
run_with every s faulty = record {
  follows = follower faulty;
  setting = s;
  events = map (λ o. o.event) every;
  room = λ n. room_at (get_elem? every n);
}

module _ (L : List (Option Line)) where
  -- Line n of the schedule, counted from 0.
  abbrev pub line_at : ℕ → Option (Option Line)
  line_at n = get_elem? L n

  -- The bench after the first n lines.
  unfoldable pub after : ℕ → Bench
  after zero = new_bench
  after (suc n) = after_line (after n) (line_at n)

  -- What came of the first n lines.
  unfoldable pub occurred : ℕ → List Occurrence
  occurred zero = []
  occurred (suc n) = occurred n ++ occurs (after n) (line_at n)

  -- The run of the schedule.
  abbrev pub run_of : Setup → ℕ → Run
  run_of = run_with (occurred (length L))
