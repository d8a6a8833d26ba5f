-- What the bench prints (document 01, "Bench schedule").
-- Assumes nothing.
use Rattle.std.specs.Prelude.{◌≡◌, ◌||◌, List, [], ◌∷◌, ◌++◌, ℕ, suc, ◌<◌, ◌≤◌, eqb, ltb, length, drop, if◌then◌else◌}
use Rattle.std.proofs.Math.Option.{Option}
use Rattle.protocol.specs.Controller.{Answer, taken, signed, entered, delivered, left, quiet, refused, out_of_place, Value, number, view, answer_value}
use Rattle.text.specs.Text.{dec_text}
use Rattle.statements.specs.Text.{parted, view_text}
use Rattle.schedule.specs.Line.{Line, lines, Reads}
use Rattle.bench.specs.Bench.{Bench, new_bench, Reply, step, nobody}

-- The answers' words, in ASCII.
abbrev pub word_text : Answer → List ℕ
word_text taken = 116 ∷ 97 ∷ 107 ∷ 101 ∷ 110 ∷ []
word_text (signed s) = 115 ∷ 105 ∷ 103 ∷ 110 ∷ 101 ∷ 100 ∷ []
word_text (entered v) = 101 ∷ 110 ∷ 116 ∷ 101 ∷ 114 ∷ 101 ∷ 100 ∷ []
word_text (delivered i m who) = 100 ∷ 101 ∷ 108 ∷ 105 ∷ 118 ∷ 101 ∷ 114 ∷ 101 ∷ 100 ∷ []
word_text left = 108 ∷ 101 ∷ 102 ∷ 116 ∷ []
word_text quiet = 113 ∷ 117 ∷ 105 ∷ 101 ∷ 116 ∷ []
word_text (refused r) = 114 ∷ 101 ∷ 102 ∷ 117 ∷ 115 ∷ 101 ∷ 100 ∷ []

abbrev pub value_text : Value → List ℕ
value_text (number n) = dec_text n
value_text (view v) = view_text v

-- "It prints line number, controller, answer, value."
unfoldable pub row_text : ℕ → Reply → List ℕ
row_text n r = parted (dec_text n ∷ dec_text r.who ∷ word_text r.answer ∷ value_text (answer_value r.number r.answer) ∷ []) ++ (10 ∷ [])

-- "line,who,answer,value"
abbrev pub header_text : List ℕ
header_text = 108 ∷ 105 ∷ 110 ∷ 101 ∷ 44 ∷ 119 ∷ 104 ∷ 111 ∷ 44 ∷ 97 ∷ 110 ∷ 115 ∷ 119 ∷ 101 ∷ 114 ∷ 44 ∷ 118 ∷ 97 ∷ 108 ∷ 117 ∷ 101 ∷ 10 ∷ []

-- The rows of the lines from number n on, one after the other.
unfoldable pub rows_from : ℕ → Bench → List (Option Line) → List ℕ
rows_from n b [] = []
rows_from n b (l ∷ L) = row_text n (step b l).reply ++ rows_from (suc n) (step b l).bench L

-- Every line reads so, in the ring that the lines before it left.
abbrev pub ReadAll : Bench → List (List ℕ) → List (Option Line) → Type 0
ReadAll b [] [] = Unit {0}
ReadAll b [] (o ∷ O) = ⊥
ReadAll b (S ∷ L) [] = ⊥
ReadAll b (S ∷ L) (o ∷ O) = Reads b.notices S o × ReadAll (step b o).bench L O

-- "an empty or longer one prints the header and 0,16,refused,8 alone"
abbrev pub refused_row : List ℕ
refused_row = row_text 0 (record { who = nobody; answer = refused out_of_place; number = 0 })

-- out is what is printed for the schedule. A schedule that is too long is not read.
pub record Printed (schedule out : List ℕ) : Type 0 where
  pub reading : List (Option Line)
  pub reads : length schedule ≤ 65536 → ReadAll new_bench (lines schedule) reading
  pub prints : out ≡ header_text ++ (if eqb (length schedule) 0 || ltb 65536 (length schedule) then refused_row else rows_from 1 new_bench reading)

-- What running a schedule over the memory `rows` answers and leaves in it. What is printed stands from the start, r is its length, and all after it is as it was;
-- where it has no room, r is 0 and all is as it was. One text alone is printed for a schedule (`printed-one`), and no schedule prints more than 2621504 bytes.
pub record Answered (schedule rows : List ℕ) (r : ℕ) (after : List ℕ) : Type 0 where
  pub text : List ℕ
  pub printed : Printed schedule text
  pub most : length text ≤ 2621504
  pub fits : length text ≤ length rows → (r ≡ length text) × (after ≡ text ++ drop (length text) rows)
  pub short : length rows < length text → (r ≡ 0) × (after ≡ rows)
