-- The bench in memory: controllers and records over the pool's memory W, and what a line on one of them promises. R is the memory of a record.
-- Assumes nothing.
use Rattle.std.specs.Prelude.{◌≡◌, Bool, true, false, not, ◌&&◌, List, [], ◌++◌, ℕ, Option, Some, None, Result, Ok, Err, ◌+◌, ◌<◌, ◌≤◌, min, eqb, ltb, length, get_or, set, if◌then◌else◌}
use Rattle.std.proofs.Math.Option.{some}
use Rattle.protocol.specs.Lists.{any, filter, list_of}
use Rattle.protocol.specs.Sets.{bit}
use Rattle.protocol.specs.View.{controllers, member}
use Rattle.protocol.specs.Statement.{Stmt, same_stmt}
use Rattle.protocol.specs.Window.{last_minute, windows_allowed, is_open}
use Rattle.protocol.specs.Call.{Setup, setup_allowed, started}
use Rattle.protocol.specs.Turn.{turn as turn_of}
use Rattle.views.specs.Held.{view_is}
use Rattle.pool.specs.Pool.{stmt_at, pool_len, record_len, record_in, pool_of, AllIn, Grows}
use Rattle.engine.specs.declared.Controller.{Controller}
use Rattle.engine.specs.declared.Answer.{Answer}
use Rattle.engine.specs.declared.Refusal.{Refusal}
use Rattle.engine.specs.declared.Refusal.TheVariants.{BadRequest, UnknownNotice, BadMinute}
use Rattle.engine.specs.declared.Answer.TheVariants.{Taken, Signed, Entered, Delivered, Left, Quiet}
use Rattle.engine.specs.Meaning.{setup_is, controller_is, Came, signed_number, answer_is, refusal_is}
use Rattle.protocol.specs.Controller.{refusal_number, taken}
use Rattle.schedule.specs.declared.line.Line.{Line as Held}
use Rattle.schedule.specs.declared.line.Line.TheVariants as is
use Rattle.bench.specs.declared.row.Word.{Word}
use Rattle.bench.specs.declared.row.Word.TheVariants as word
use Rattle.bench.specs.declared.row.Value.{Value}
use Rattle.bench.specs.declared.row.Value.TheVariants as value
use Rattle.bench.specs.declared.seat.Given.{Given}
use Rattle.bench.specs.declared.state.Setting.{Setting}
use Rattle.bench.specs.declared.state.Effect.{Effect}
use Rattle.schedule.specs.Line.{Line, ended, Reads}
use Rattle.schedule.specs.Line as lines
use Rattle.schedule.specs.Reading.{a_line, meant, Tells}
use Rattle.bench.specs.Bench.{Seat, empty_seat, Bench, nobody, Reply, step}

-- What stands past the end of a list of controllers.
abbrev pub blank : Controller
blank = record {
  ready = false;
  number = 0;
  init = record { joined = 0; left = 0 };
  notices = 0;
  senders = [];
  entered = record { views = []; len = 0 };
  held = [];
  sends = [];
  delivered = 0;
  requested = 0;
  joining = false;
  leaving = false;
  windows = 0;
  times = [];
}

-- A controller and its record.
abbrev pub seat_is : List ℕ → Controller → List ℕ → Seat
seat_is W c R = record { controller = controller_is c; statements = record_in W R }

-- What a setup says of the whole ring: the faulty set and the number of notices.
pub record Terms : Type 0 where
  pub faulty : ℕ
  pub notices : ℕ

-- A number of notices above 64 counts as 64.
abbrev pub terms_of : Setting → Terms
terms_of g = record { faulty = g.faulty; notices = min g.notices 64 }

-- The bench with these seats over the pool's memory.
abbrev pub bench_of : Bool → Terms → List Seat → List ℕ → Bench
bench_of ready t X W = record { is_set_up = ready; faulty = t.faulty; notices = t.notices; seats = X; pool = pool_of W }

-- Two numbers of the pool stand for the same statement just where they are the same.
pub record Distinct (W : List ℕ) : Type 0 where
  pub tells : (i j : ℕ) → i < pool_len W → j < pool_len W → same_stmt (stmt_at W i) (stmt_at W j) ≡ eqb i j

-- What the bench keeps of its pool and of each record.
pub record Sound (W R : List ℕ) : Type 0 where
  pub distinct : Distinct W
  pub whole : AllIn W R

-- ---- a record's numbers

unfoldable pub numbers_in : List ℕ → List ℕ
numbers_in R = list_of (record_len R) (λ i. get_or R i 0)

-- Whether n is one of them.
unfoldable pub has_number : List ℕ → ℕ → Bool
has_number R n = any (eqb n) (numbers_in R)

-- The record has every number below m.
unfoldable pub Full : List ℕ → ℕ → Type 0
Full R m = (i : ℕ) → i < m → has_number R i ≡ true

-- The record has what it had.
unfoldable pub Keeps : List ℕ → List ℕ → Type 0
Keeps R R' = (i : ℕ) → has_number R i ≡ true → has_number R' i ≡ true

-- Every number that the record has is below m.
unfoldable pub NumbersBelow : List ℕ → ℕ → Type 0
NumbersBelow R m = (i : ℕ) → i < record_len R → get_or R i 0 < m

-- marks tell which numbers below 512 the record has.
pub record NumberMarks (R : List ℕ) (marks : List Bool) : Type 0 where
  pub tells : (n : ℕ) → n < 512 → get_or marks n false ≡ has_number R n

-- Every number from i on, below j, has a mark.
unfoldable pub Marked : List Bool → ℕ → ℕ → Type 0
Marked marks i j = (k : ℕ) → i ≤ k → k < j → get_or marks k false ≡ true

-- r is the first number from i on, below n, that has no mark.
pub record FirstFree (marks : List Bool) (i n r : ℕ) : Type 0 where
  pub from : i ≤ r
  pub below : r < n
  pub passed : Marked marks i r
  pub free : get_or marks r false ≡ false

-- The numbers below n that have no mark, rising.
unfoldable pub unmarked : List Bool → ℕ → List ℕ
unmarked marks n = filter (λ i. not (get_or marks i false)) (list_of n (λ i. i))

-- The numbers below n that had no mark are at the end of the record, if it had room for all of them.
pub record RecordFilled (R : List ℕ) (marks : List Bool) (n : ℕ) (R' : List ℕ) : Type 0 where
  pub numbers : record_len R + length (unmarked marks n) ≤ 512 → numbers_in R' ≡ numbers_in R ++ unmarked marks n
  pub below : (m : ℕ) → n ≤ m → NumbersBelow R m → NumbersBelow R' m

-- ---- a line that goes to one record

-- The line l, which names seat k, was answered so: what it does to every bench that has the record R there.
pub record GivenAtSeat (W R : List ℕ) (ready : Bool) (k : ℕ) (l : Line) (r : Given) (R' : List ℕ) : Type 0 where
  pub steps : (terms : Terms) (X : List Seat) → (get_or X k empty_seat).statements ≡ record_in W R
      → step (bench_of ready terms X W) (some l)
      ≡ record {
        reply = record { who = k; answer = answer_is W r.answer; number = r.number };
        bench = bench_of ready terms (set X k (record { controller = (get_or X k empty_seat).controller; statements = record_in W R' })) W;
      }
  pub whole : AllIn W R'
  pub keeps : Keeps R R'
  pub full : r.whole ≡ true → Full R' (pool_len W)

-- What `give` of statement n promises, and what `all` does, whomever they name.
pub record Gives (W R : List ℕ) (ready : Bool) (n : ℕ) (r : Given) (R' : List ℕ) : Type 0 where
  pub to : (k : ℕ) → GivenAtSeat W R ready k (lines.give k n) r R'

pub record GivesAll (W R : List ℕ) (ready : Bool) (r : Given) (R' : List ℕ) : Type 0 where
  pub to : (k : ℕ) → GivenAtSeat W R ready k (lines.all k) r R'

-- ---- a call

-- Whether a call that answers so may have changed its controller.
abbrev pub changes_is : Result Answer Refusal → Bool
changes_is (Ok Taken) = true
changes_is (Ok (Signed n)) = true
changes_is (Ok (Entered v)) = true
changes_is (Ok (Delivered i m who)) = true
changes_is (Ok Left) = false
changes_is (Ok Quiet) = false
changes_is (Err r) = false

-- The line l calls controller c at seat k, which has the record R: what it does to every bench that has them there.
pub record CalledAtSeat (W R : List ℕ) (c : Controller) (k : ℕ) (l : Line) (o : Came) (W' R' : List ℕ) : Type 0 where
  pub steps : (ready : Bool) (terms : Terms) (X : List Seat) → get_or X k empty_seat ≡ seat_is W c R
      → step (bench_of ready terms X W) (some l)
      ≡ record {
        reply = record { who = k; answer = answer_is W' o.answer; number = signed_number o.answer };
        bench = bench_of ready terms (set X k (seat_is W' o.controller R')) W';
      }
  pub sound : Sound W' R'
  pub grows : Grows W W'
  pub keeps : Keeps R R'
  -- A controller that is not stored is as it was.
  pub same : changes_is o.answer ≡ false → controller_is o.controller ≡ controller_is c

-- ---- any line

-- The controller that a line names; 0 where it names none.
abbrev pub seat_of : Held → ℕ
seat_of is.Setup = 0
seat_of (is.Join k) = k
seat_of (is.Leave k) = k
seat_of (is.Send k i m) = k
seat_of (is.Give k n) = k
seat_of (is.All k) = k
seat_of (is.Turn k m) = k
seat_of is.Lie = 0

-- Whether a line calls the controller that it names.
abbrev pub is_call : Held → Bool
is_call is.Setup = false
is_call (is.Join k) = true
is_call (is.Leave k) = true
is_call (is.Send k i m) = true
is_call (is.Give k n) = false
is_call (is.All k) = false
is_call (is.Turn k m) = true
is_call is.Lie = false

-- The line l was read from the text T.
pub record ReadFrom (l : Held) (T : List ℕ) : Type 0 where
  pub tells : Tells (meant l) (ended T)

-- ---- a call that changes nothing

-- What a call answers that is known to change nothing; none of a call of which nothing is known.
abbrev pub Known : Type 0
Known = Option (Result Answer Refusal)

-- P holds of the answer, if the call is known to change nothing.
abbrev pub IfIdle : Known → (Result Answer Refusal → Type 0) → Type 0
IfIdle (Some a) P = P a
IfIdle None P = Unit {0}

-- A turn of the controller c with the record R answers a and changes nothing, at every minute of the week and whatever room the pool has.
pub record Rests (W R : List ℕ) (c : Controller) (a : Result Answer Refusal) : Type 0 where
  pub idle : changes_is a ≡ false
  pub turns : (room : Stmt → Bool) (minute : ℕ) → minute ≤ last_minute → turn_of (controller_is c) (record_in W R) room minute ≡ record { answer = answer_is W a; controller = controller_is c; statements = record_in W R }

-- What is known of the next turn of a controller whose turn answered so: it answers the same where nothing was to do.
abbrev pub turn_after : Result Answer Refusal → Known
turn_after (Ok Taken) = None
turn_after (Ok (Signed n)) = None
turn_after (Ok (Entered v)) = None
turn_after (Ok (Delivered i m who)) = None
turn_after (Ok Left) = Some (Ok Left)
turn_after (Ok Quiet) = Some (Ok Quiet)
turn_after (Err r) = None

-- The controller c asked to leave, and the minute is outside its windows.
unfoldable pub waits_at : Controller → ℕ → Bool
waits_at c minute = c.leaving && not (is_open (controller_is c).windows minute)

-- What is known of the next turn of c, which had a turn at this minute: nothing where it waits for a window, since a later turn may find that open.
unfoldable pub turn_known : Controller → ℕ → Result Answer Refusal → Known
turn_known c minute a = if waits_at c minute then None else turn_after a

-- The same after any line that calls c.
abbrev pub next_turn : Controller → Held → Result Answer Refusal → Known
next_turn c is.Setup a = None
next_turn c (is.Join k) a = None
next_turn c (is.Leave k) a = None
next_turn c (is.Send k i m) a = None
next_turn c (is.Give k n) a = None
next_turn c (is.All k) a = None
next_turn c (is.Turn k minute) a = turn_known c minute a
next_turn c is.Lie a = None

-- The line l calls the controller c, which has the record R.
pub record CalledByLine (W R : List ℕ) (c : Controller) (l : Held) (o : Came) (W' R' : List ℕ) : Type 0 where
  pub line : Line
  pub means : meant l ≡ a_line line
  pub called : CalledAtSeat W R c (seat_of l) line o W' R'
  pub rests : IfIdle (next_turn c l o.answer) (Rests W' R' o.controller)

-- What a setup names, of which the senders and the windows were read into the memory S and A.
abbrev pub setup_in : Setting → List ℕ → List ℕ → Setup
setup_in g S A = setup_is (record { members = g.members; notices = g.notices; windows = g.windows }) S A

-- A ring may start so, with controller 0 as with every other.
pub record MayStart (p : Setup) : Type 0 where
  pub allowed : setup_allowed 0 p.members p.senders ≡ true
  pub windows : windows_allowed p.windows ≡ true

abbrev pub denied : Refusal → Known
denied q = Some (Err q)

unfoldable pub join_verdict : Controller → Known
join_verdict c = if member (view_is c.init) c.number then denied BadRequest else if c.joining then denied BadRequest else None

unfoldable pub leave_verdict : Controller → Known
leave_verdict c = if eqb c.entered.len 0 then denied BadRequest else if c.leaving then denied BadRequest else None

unfoldable pub send_verdict : Controller → ℕ → Known
send_verdict c notice =
    if not (ltb notice (min c.notices 64)) then denied UnknownNotice
    else if not (eqb c.number (get_or c.senders notice 0)) then denied BadRequest else if bit c.requested notice then denied BadRequest else None

-- The minute of a turn; 0 in any other line.
abbrev pub minute_in : Held → ℕ
minute_in is.Setup = 0
minute_in (is.Join k) = 0
minute_in (is.Leave k) = 0
minute_in (is.Send k i m) = 0
minute_in (is.Give k n) = 0
minute_in (is.All k) = 0
minute_in (is.Turn k minute) = minute
minute_in is.Lie = 0

unfoldable pub turn_verdict : ℕ → Known → Known
turn_verdict minute turn = if ltb last_minute minute then denied BadMinute else turn

-- The call of the line l on the controller c, of whose turn `turn` is known, answers so and changes nothing, if that is known of it.
pub record Judged (c : Controller) (l : Held) (turn v : Known) : Type 0 where
  pub answers : (W R : List ℕ) → Sound W R → IfIdle turn (Rests W R c) → IfIdle v (λ a. CalledByLine W R c l (record { answer = a; controller = c }) W R)

-- The seats after a line that calls no controller: a setup that is taken starts all of them, every other line changes at most one record.
abbrev pub seats_after : Bool → Setup → List ℕ → List ℕ → ℕ → List Seat → List Seat
seats_after fresh p W' R' k X =
    if fresh then list_of controllers (λ j. record { controller = started j p; statements = [] })
    else set X k (record { controller = (get_or X k empty_seat).controller; statements = record_in W' R' })

abbrev pub reply_is : List ℕ → ℕ → Result Answer Refusal → ℕ → Reply
reply_is W who a number = record { who = who; answer = answer_is W a; number = number }

-- The line l, which calls no controller, on a bench that has the record R at seat k: its reply is y, and what the setup said is h after it. `fresh` tells that every controller is to start,
-- with the senders and windows in the memory S and A.
pub record Advanced (W R : List ℕ) (g : Setting) (k : ℕ) (l : Line) (y : Reply) (h : Setting) (fresh : Bool) (W' R' S A : List ℕ) : Type 0 where
  pub steps : (X : List Seat) → (get_or X k empty_seat).statements ≡ record_in W R
      → step (bench_of g.ready (terms_of g) X W) (some l) ≡ record { reply = y; bench = bench_of h.ready (terms_of h) (seats_after fresh (setup_in h S A) W' R' k X) W' }
  pub sound : fresh ≡ false → Sound W' R'
  pub grows : fresh ≡ false → Grows W W'
  pub keeps : fresh ≡ false → Keeps R R'
  pub begun : fresh ≡ true → (pool_len W' ≡ 0) × MayStart (setup_in h S A)

-- What `step` answers of a line.
pub record SteppedAs (W R : List ℕ) (g : Setting) (k : ℕ) (l : Line) (s : Effect) (W' R' S A : List ℕ) : Type 0 where
  pub who : s.who ≤ 16
  pub advanced : Advanced W R g k l (reply_is W' s.who s.answer s.number) s.setting s.fresh W' R' S A
  pub full : s.whole ≡ true → Full R' (pool_len W')

-- The text T reads as a line, which does this.
pub record SteppedBy (W R : List ℕ) (g : Setting) (k : ℕ) (T : List ℕ) (s : Effect) (W' R' S A : List ℕ) : Type 0 where
  pub line : Line
  pub reads : Reads (terms_of g).notices (ended T) (some line)
  pub stepped : SteppedAs W R g k line s W' R' S A

-- The same of a lie, which goes to the pool alone: whatever record stands at the first seat stays.
pub record SteppedOnPool (W : List ℕ) (g : Setting) (l : Line) (s : Effect) (W' : List ℕ) : Type 0 where
  pub over : (R S A : List ℕ) → AllIn W R → SteppedAs W R g 0 l s W' R S A

pub record SteppedOnPoolBy (W : List ℕ) (g : Setting) (T : List ℕ) (s : Effect) (W' : List ℕ) : Type 0 where
  pub over : (R S A : List ℕ) → AllIn W R → SteppedBy W R g 0 T s W' R S A

-- And of a setup, whose senders and windows stand in the memory S and A after it.
pub record SetUpBy (W : List ℕ) (g : Setting) (T : List ℕ) (s : Effect) (W' S A : List ℕ) : Type 0 where
  pub over : (R : List ℕ) → AllIn W R → SteppedBy W R g 0 T s W' R S A

-- Whom the row of a setup shows, by the senders in the memory S and their count.
unfoldable pub shown_in : List ℕ → ℕ → ℕ
shown_in S count = if eqb count 0 then nobody else if ltb (get_or S 0 0) controllers then get_or S 0 0 else nobody

-- What is told of a lie whose text is no statement.
pub record NoStatement (g : Setting) (s : Effect) : Type 0 where
  pub pools : (W : List ℕ) → Distinct W → SteppedOnPool W g lines.no_statement s W

-- What is told of a line that was answered so and leaves all settings as they were.
pub record ToldAs (g : Setting) (who : ℕ) (r : Given) (s : Effect) : Type 0 where
  pub who-is : s.who ≡ who
  pub answer : s.answer ≡ r.answer
  pub number : s.number ≡ r.number
  pub setting : s.setting ≡ g
  pub fresh : s.fresh ≡ false
  pub whole : s.whole ≡ r.whole

abbrev pub refused_for : Refusal → Given
refused_for q = record { answer = Err q; number = 0; whole = false }

abbrev pub taken_as : ℕ → Bool → Given
taken_as n whole = record { answer = Ok Taken; number = n; whole = whole }

-- The line leaves every bench as it is and answers taken with 0, where the record of the controller that it names has every number below full.
pub record LacksNothing (W : List ℕ) (g : Setting) (full : ℕ) (l : Held) : Type 0 where
  pub line : Line
  pub means : meant l ≡ a_line line
  pub steps : (R : List ℕ) → Sound W R → Full R full → (X : List Seat) → (get_or X (seat_of l) empty_seat).statements ≡ record_in W R
      → step (bench_of g.ready (terms_of g) X W) (some line)
      ≡ record { reply = record { who = seat_of l; answer = taken; number = 0 }; bench = bench_of g.ready (terms_of g) X W }

-- ---- rows

abbrev pub word_of_answer : Result Answer Refusal → Word
word_of_answer (Ok Taken) = word.Taken
word_of_answer (Ok (Signed n)) = word.Signed
word_of_answer (Ok (Entered v)) = word.Entered
word_of_answer (Ok (Delivered i m who)) = word.Delivered
word_of_answer (Ok Left) = word.Left
word_of_answer (Ok Quiet) = word.Quiet
word_of_answer (Err r) = word.Refused

abbrev pub value_of_answer : Result Answer Refusal → ℕ → Value
value_of_answer (Ok Taken) n = value.Number n
value_of_answer (Ok (Signed i)) n = value.Number n
value_of_answer (Ok (Entered v)) n = value.View v
value_of_answer (Ok (Delivered i m who)) n = value.Number m
value_of_answer (Ok Left) n = value.Number 0
value_of_answer (Ok Quiet) n = value.Number 0
value_of_answer (Err r) n = value.Number (refusal_number (refusal_is r))
