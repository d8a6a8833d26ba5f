-- The bench: sixteen controllers over one pool, and what a line does to it (document 01, "Bench schedule" and "Returned on refusal"; document 02, A1, A4).
-- Assumes nothing.
use Rattle.std.specs.Prelude.{Bool, true, false, not, ◌||◌, List, [], ◌∷◌, ◌++◌, ℕ, ◌+◌, leb, ltb, length, get_or, set, if◌then◌else◌}
use Rattle.std.proofs.Math.Option.{Option, some, none}
use Rattle.protocol.specs.Sets.{bit}
use Rattle.protocol.specs.Lists.{any, filter, list_of}
use Rattle.protocol.specs.View.{controllers}
use Rattle.protocol.specs.Statement.{Stmt, same_stmt, no_stmt}
use Rattle.protocol.specs.Controller.{Controller, not_set_up, Refusal, bad_setup, bad_statement, repeated, full, out_of_place, unknown_notice, bad_window, Answer, taken, signed, entered, delivered, left, quiet, refused, Outcome}
use Rattle.protocol.specs.Window.{windows_allowed}
use Rattle.protocol.specs.Call.{Setup, setup_allowed, started, request_join, request_leave, request_send}
use Rattle.protocol.specs.Pool.{number_of, pooled, has_room}
use Rattle.protocol.specs.Turn.{turn as turn_of}
use Rattle.schedule.specs.Line.{Line, setup, join, leave, send, give, all, turn, lie, no_statement}

-- A controller and its record.
pub record Seat : Type 0 where
  pub controller : Controller
  pub statements : List Stmt

abbrev pub empty_seat : Seat
empty_seat = record { controller = not_set_up; statements = [] }

-- "The bench keeps one pool of signed statements, numbered from 0."
pub record Bench : Type 0 where
  pub is_set_up : Bool
  pub faulty : ℕ
  -- The number of notices of the setup; "before one, for one notice".
  pub notices : ℕ
  pub seats : List Seat
  pub pool : List Stmt

-- The bench before a setup.
abbrev pub new_bench : Bench
new_bench = record { is_set_up = false; faulty = 0; notices = 1; seats = list_of controllers (λ k. empty_seat); pool = [] }

-- What a line answers, with whom its row names and the number that its value may need: a statement's number or a count.
pub record Reply : Type 0 where
  pub who : ℕ
  pub answer : Answer
  pub number : ℕ

pub record Stepped : Type 0 where
  pub reply : Reply
  pub bench : Bench

-- 16 stands where no controller is named.
abbrev pub nobody : ℕ
nobody = 16

-- "its row shows notice 0's" sender, nobody where that is above 15; "with a count of 0 the row shows 16".
unfoldable pub shown_sender : List ℕ → ℕ
shown_sender [] = nobody
shown_sender (k ∷ senders) = if ltb k controllers then k else nobody

module _ (b : Bench) where
  -- Refused: "all as before".
  abbrev pub refuse_line : ℕ → Refusal → Stepped
  refuse_line who r = record { reply = record { who = who; answer = refused r; number = 0 }; bench = b }

  abbrev pub seat : ℕ → Seat
  seat k = get_or b.seats k empty_seat

  -- "Each line changes the controller it names and no other": controller k has the outcome o, and the pool is P.
  abbrev pub at : ℕ → Outcome → List Stmt → ℕ → Stepped
  at k o P number = record {
    reply = record { who = k; answer = o.answer; number = number };
    bench = record { is_set_up = b.is_set_up; faulty = b.faulty; notices = b.notices; seats = set b.seats k (record { controller = o.controller; statements = o.statements }); pool = P };
  }

  -- "Before setup 8 comes first."
  abbrev pub once_set_up : ℕ → Stepped → Stepped
  once_set_up who s = if b.is_set_up then s else refuse_line who out_of_place

  -- "a setup that is taken starts all sixteen controllers on an empty pool".
  unfoldable pub set_up : Setup → ℕ → Stepped
  set_up s faulty =
      if b.is_set_up || not (setup_allowed 0 s.members s.senders) then refuse_line (shown_sender s.senders) bad_setup
      else if not (windows_allowed s.windows) then refuse_line (shown_sender s.senders) bad_window
      else record {
        reply = record { who = shown_sender s.senders; answer = taken; number = 0 };
        bench = record { is_set_up = true; faulty = faulty; notices = length s.senders; seats = list_of controllers (λ k. record { controller = started k s; statements = [] }); pool = [] };
      }

  -- "Give adds statement n to k's record". "Give: 8, 3, 4." (Nothing in the pool would get 9.)
  unfoldable pub give_to : ℕ → ℕ → Stepped
  give_to k n =
      once_set_up k (if leb (length b.pool) n then refuse_line k out_of_place
      else if any (same_stmt (get_or b.pool n no_stmt)) (seat k).statements then refuse_line k repeated
      else if leb 512 (length (seat k).statements) then refuse_line k full
      else at k (record { answer = taken; controller = (seat k).controller; statements = (seat k).statements ++ (get_or b.pool n no_stmt ∷ []) }) b.pool 0)

  -- "all adds every missing one in rising number"; its value is their count.
  abbrev pub missing : ℕ → List Stmt
  missing k = filter (λ s. not (any (same_stmt s) (seat k).statements)) b.pool

  unfoldable pub give_all : ℕ → Stepped
  give_all k =
      once_set_up k (if ltb 512 (length (seat k).statements + length (missing k)) then refuse_line k full
      else at k (record { answer = taken; controller = (seat k).controller; statements = (seat k).statements ++ missing k }) b.pool (length (missing k)))

  -- "a turn that signs also adds to the pool"
  unfoldable pub after_turn : ℕ → Outcome → Answer → Stepped
  after_turn k o (signed s) = at k o (pooled s b.pool) (number_of s b.pool)
  after_turn k o taken = at k o b.pool 0
  after_turn k o (entered v) = at k o b.pool 0
  after_turn k o (delivered i m who) = at k o b.pool 0
  after_turn k o left = at k o b.pool 0
  after_turn k o quiet = at k o b.pool 0
  after_turn k o (refused r) = at k o b.pool 0

  unfoldable pub turn_at : ℕ → ℕ → Stepped
  turn_at k minute =
      let o : Outcome = turn_of (seat k).controller (seat k).statements (has_room b.pool) minute in
      after_turn k o o.answer

  -- "a lie changes the pool alone". "A lie line after setup: 2, 8 for its origin, 3, 4." (2 is the case of no_statement.) "a notice number not in the setup gets 9 ..,
  -- after 2 and a lie's 8, before 3".
  unfoldable pub lie_of : Stmt → Stepped
  lie_of s =
      once_set_up s.origin (if not (bit b.faulty s.origin) then refuse_line s.origin out_of_place
      else if not (ltb s.notice b.notices) then refuse_line s.origin unknown_notice
      else if any (same_stmt s) b.pool then refuse_line s.origin repeated
      else if leb 512 (length b.pool) then refuse_line s.origin full
      else record {
        reply = record { who = s.origin; answer = taken; number = length b.pool };
        bench = record { is_set_up = b.is_set_up; faulty = b.faulty; notices = b.notices; seats = b.seats; pool = b.pool ++ (s ∷ []) };
      })

  -- What a line does. A line that reads as none is refused with 8.
  unfoldable pub step : Option Line → Stepped
  step none = refuse_line nobody out_of_place
  step (some (setup s faulty)) = set_up s faulty
  step (some (join k)) = at k (request_join (seat k).controller (seat k).statements) b.pool 0
  step (some (leave k)) = at k (request_leave (seat k).controller (seat k).statements) b.pool 0
  step (some (send k notice payload)) = at k (request_send (seat k).controller (seat k).statements notice payload) b.pool 0
  step (some (give k n)) = give_to k n
  step (some (all k)) = give_all k
  step (some (turn k minute)) = turn_at k minute
  step (some (lie s)) = lie_of s
  step (some no_statement) = once_set_up nobody (refuse_line nobody bad_statement)
