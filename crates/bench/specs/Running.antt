-- A schedule's run: the sixteen controllers and their records in memory, and what was printed so far.
-- Assumes nothing.
use Rattle.schedule.specs.declared.line.Line.{Line as Held}
use Rattle.std.specs.Prelude.{◌≡◌, ◌⊎◌, Bool, true, false, List, [], ◌++◌, ℕ, None, Result, ◌+◌, ◌*◌, ◌<◌, ◌≤◌, length, get_or, drop}
use Rattle.std.proofs.Math.Option.{Option, some}
use Rattle.protocol.specs.Lists.{list_of}
use Rattle.protocol.specs.Controller.{not_set_up}
use Rattle.protocol.specs.Call.{Setup, started}
use Rattle.text.specs.Written.{Wrote}
use Rattle.pool.specs.Pool.{record_len, record_in, AllIn}
use Rattle.engine.specs.declared.Controller.{Controller}
use Rattle.engine.specs.declared.Answer.{Answer}
use Rattle.engine.specs.declared.Refusal.{Refusal}
use Rattle.engine.specs.Meaning.{controller_is, Came, signed_number}
use Rattle.bench.specs.declared.state.Setting.{Setting}
use Rattle.bench.specs.declared.lines.Place.{Place}
use Rattle.bench.specs.declared.lines.Moved.{Moved}
use Rattle.bench.specs.declared.lines.Ended.{Ended}
use Rattle.schedule.specs.Line.{Line, ended, lines, Reads}
use Rattle.bench.specs.Bench.{Seat, Bench, Reply, new_bench, seat}
use Rattle.bench.specs.Rows.{row_text, rows_from, ReadAll, refused_row, Printed}
use Rattle.bench.specs.After.{bench_after, last_bench, SeatAfter}
use Rattle.bench.specs.Writing.{row_of}
use Rattle.bench.specs.Seats.{blank, seat_is, terms_of, bench_of, Distinct, Full, seat_of, changes_is, CalledByLine, Known, IfIdle, Rests, Advanced, word_of_answer, value_of_answer}

-- The row of a line.
unfoldable pub row_is : ℕ → ℕ → Result Answer Refusal → ℕ → List ℕ
row_is n who a number = row_of n who (word_of_answer a) (value_of_answer a number)

-- The sixteen seats.
unfoldable pub seats_is : List ℕ → List Controller → List (List ℕ) → List Seat
seats_is W cs Rs = list_of 16 (λ k. seat_is W (get_or cs k blank) (get_or Rs k []))

-- The bench in memory.
abbrev pub bench_is : Setting → List ℕ → List Controller → List (List ℕ) → Bench
bench_is g W cs Rs = bench_of g.ready (terms_of g) (seats_is W cs Rs) W

-- What the bench keeps of its pool, its controllers and their records.
pub record BenchKept (W : List ℕ) (cs : List Controller) (Rs : List (List ℕ)) : Type 0 where
  pub distinct : Distinct W
  pub long : length cs ≡ 16
  pub records : length Rs ≡ 16
  pub whole : (k : ℕ) → k < 16 → AllIn W (get_or Rs k [])

-- Record k has every number below fs at k.
pub record Fulls (Rs : List (List ℕ)) (fs : List ℕ) : Type 0 where
  pub long : length fs ≡ 16
  pub each : (k : ℕ) → k < 16 → Full (get_or Rs k []) (get_or fs k 0)

-- What is known of the next turn of controller k is at k in vs.
pub record Turnings (W : List ℕ) (cs : List Controller) (Rs : List (List ℕ)) (vs : List Known) : Type 0 where
  pub long : length vs ≡ 16
  pub each : (k : ℕ) → k < 16 → IfIdle (get_or vs k None) (Rests W (get_or Rs k []) (get_or cs k blank))

-- Every controller has just started, with an empty record.
pub record Started (p : Setup) (cs : List Controller) (Rs : List (List ℕ)) : Type 0 where
  pub long : length cs ≡ 16
  pub records : length Rs ≡ 16
  pub each : (k : ℕ) → k < 16 → (controller_is (get_or cs k blank) ≡ started k p) × (record_len (get_or Rs k []) ≡ 0)

-- The whole schedule reads so, its rows are those printed and then those of the rest, and the bench after it is `final`.
pub record Reading (S : List ℕ) (printed rest : List ℕ) (final : Bench) : Type 0 where
  pub reading : List (Option Line)
  pub reads : ReadAll new_bench (lines S) reading
  pub rows : rows_from 1 new_bench reading ≡ printed ++ rest
  pub ends : bench_after new_bench reading ≡ final

-- The lines before the place were run, and b is the bench; `printed` stands in the rows R' after the header.
pub record RunSoFar (S : List ℕ) (place : Place) (b : Bench) (R R' : List ℕ) : Type 0 where
  pub printed : List ℕ
  pub wrote : Wrote R 22 printed place.out R'
  pub small : length printed ≤ 40 * place.at
  pub number : place.n ≤ place.at + 1
  pub within : place.at ≤ length S
  pub rest : (L : List (Option Line)) → ReadAll b (lines (drop place.at S)) L → Reading S printed (rows_from place.n b L) (bench_after b L)

-- A run before the first line, with the rows after the header.
pub record AtStart (place : Place) : Type 0 where
  pub ready : place.setting.ready ≡ false
  pub faulty : place.setting.faulty ≡ 0
  pub notices : place.setting.notices ≡ 1
  pub at : place.at ≡ 0
  pub number : place.n ≡ 1
  pub out : place.out ≡ 22

-- A run that has room for one more row and goes on so many bytes later.
pub record HasRoom (place : Place) (next : ℕ) : Type 0 where
  pub out : place.out ≤ 2621504
  pub number : place.n < 100000
  pub at : place.at + next ≤ 65536

-- The row went into the rows R where the run stood; it goes on so many bytes later, with the next line.
pub record RowWritten (R : List ℕ) (place : Place) (next : ℕ) (row : List ℕ) (on : Place) (R' : List ℕ) : Type 0 where
  pub at : on.at ≡ place.at + next
  pub number : on.n ≡ place.n + 1
  pub wrote : Wrote R place.out row on.out R'
  pub small : length row ≤ 40

-- What a row of a line that leaves all settings as they are does to the run.
pub record RowPut (R : List ℕ) (place : Place) (next : ℕ) (row : List ℕ) (on : Place) (R' : List ℕ) : Type 0 where
  pub passed : RowWritten R place next row on R'
  pub setting : on.setting ≡ place.setting

-- Up to where a record is known to have every number after a line, over a pool of n statements: the whole pool, or as before.
abbrev pub full_after : Bool → ℕ → ℕ → ℕ
full_after true n full = n
full_after false n full = full

-- The call of the line l on the controller c with the record R was made, and a is its answer. The controller is stored where the call may have changed it, and v' is known of its next turn.
pub record CallMade (W R : List ℕ) (c : Controller) (l : Held) (a : Result Answer Refusal) (W' R' : List ℕ) (c' : Controller) (v' : Known) : Type 0 where
  pub came : Came
  pub called : CalledByLine W R c l came W' R'
  pub answered : a ≡ came.answer
  pub stored : ((changes_is came.answer ≡ true) × (c' ≡ came.controller)) ⊎ ((changes_is came.answer ≡ false) × (c' ≡ c))
  pub rests : IfIdle v' (Rests W' R' c')

-- The line l, which calls the controller c with the record R, was run. The controller is stored where the call may have changed it, and v' is known of its next turn.
pub record CallRun (W R : List ℕ) (place : Place) (next : ℕ) (c : Controller) (l : Held) (rows : List ℕ) (on : Place) (W' R' : List ℕ) (c' : Controller) (v' : Known) (rows' : List ℕ) : Type 0 where
  pub came : Came
  pub called : CalledByLine W R c l came W' R'
  pub stored : ((changes_is came.answer ≡ true) × (c' ≡ came.controller)) ⊎ ((changes_is came.answer ≡ false) × (c' ≡ c))
  pub rests : IfIdle v' (Rests W' R' c')
  pub passed : RowPut rows place next (row_is place.n (seat_of l) came.answer (signed_number came.answer)) on rows'

-- The line in the text T, which calls no controller, was run on the record R at seat k; the senders and windows of a setup stand in the memory S and A after it.
pub record LineRun (W R : List ℕ) (place : Place) (k : ℕ) (T : List ℕ) (rows : List ℕ) (s : Moved) (W' R' rows' S A : List ℕ) : Type 0 where
  pub line : Line
  pub reads : Reads (terms_of place.setting).notices (ended T) (some line)
  pub reply : Reply
  pub passed : RowWritten rows place (length T + 1) (row_text place.n reply) s.place rows'
  pub advanced : Advanced W R place.setting k line reply s.place.setting s.fresh W' R' S A
  pub full_is : s.fresh ≡ false → Full R' s.full

-- The rows of a schedule stand after the header; `final` is the bench after its last line, and e has controller k of it, whose record is over the pool's memory W.
pub record Ran (S : List ℕ) (R R' : List ℕ) (k : ℕ) (e : Ended) (W : List ℕ) : Type 0 where
  pub printed : List ℕ
  pub wrote : Wrote R 22 printed e.out R'
  pub small : length printed ≤ 2621440
  pub final : Bench
  pub ran : Reading S printed [] final
  pub sixteen : length final.seats ≡ 16
  pub held : seat final k ≡ seat_is W e.controller e.ids

-- Of what is printed for S, as much as has room stands in R' from the start; r is the length of all of it.
pub record PrintedInto (S R : List ℕ) (r : ℕ) (R' : List ℕ) : Type 0 where
  pub text : List ℕ
  pub printed : Printed S text
  pub wrote : Wrote R 0 text r R'
  pub small : length text ≤ 2621504

-- What is left of a schedule that is not run: its only row stands after the header, and e has a controller that is not set up, with an empty record.
pub record NotRun (R : List ℕ) (e : Ended) (R' : List ℕ) : Type 0 where
  pub wrote : Wrote R 22 refused_row e.out R'
  pub small : length refused_row ≤ 40
  pub controller : controller_is e.controller ≡ not_set_up
  pub none : (W : List ℕ) → record_in W e.ids ≡ []

-- A schedule was run over the rows R and the pool's memory, which is W after it, and e has what is told of controller k.
pub record RanWith (S R : List ℕ) (k : ℕ) (e : Ended) (R' W : List ℕ) : Type 0 where
  pub into : PrintedInto S R e.out R'
  pub after : SeatAfter S k e.controller W e.ids
  pub sixteen : length (last_bench S after.reading).seats ≡ 16

-- r is the length of what is printed for S.
pub record Long (S : List ℕ) (r : ℕ) : Type 0 where
  pub text : List ℕ
  pub printed : Printed S text
  pub long : r ≡ length text
  pub small : length text ≤ 2621504
