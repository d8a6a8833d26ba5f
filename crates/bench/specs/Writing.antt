-- A row as it is written: its word and its value, for the answers that they stand for.
-- Assumes nothing.
use Rattle.std.specs.Prelude.{ℕ, ◌≡◌, List, [], ◌∷◌, ◌++◌}
use Rattle.protocol.specs.Statement.{no_view, no_stmt}
use Rattle.protocol.specs.Controller.{Answer, taken, signed, entered, delivered, left, quiet, refused, out_of_place, number, view, answer_value}
use Rattle.protocol.specs.Controller as spoken
use Rattle.text.specs.Text.{dec_text}
use Rattle.statements.specs.Text.{parted}
use Rattle.views.specs.Held.{view_is}
use Rattle.bench.specs.declared.row.Word.{Word}
use Rattle.bench.specs.declared.row.Word.TheVariants.{Taken, Signed, Entered, Delivered, Left, Quiet, Refused}
use Rattle.bench.specs.declared.row.Value.{Value}
use Rattle.bench.specs.declared.row.Value.TheVariants.{Number, View}
use Rattle.bench.specs.Bench.{Reply}
use Rattle.bench.specs.Rows.{word_text, value_text}

abbrev pub word_for : Answer → Word
word_for taken = Taken
word_for (signed s) = Signed
word_for (entered v) = Entered
word_for (delivered i m who) = Delivered
word_for left = Left
word_for quiet = Quiet
word_for (refused r) = Refused

-- A word is the same for every statement, view, payload and refusal.
abbrev pub word_is : Word → List ℕ
word_is Taken = word_text taken
word_is Signed = word_text (signed no_stmt)
word_is Entered = word_text (entered no_view)
word_is Delivered = word_text (delivered 0 0 0)
word_is Left = word_text left
word_is Quiet = word_text quiet
word_is Refused = word_text (refused out_of_place)

abbrev pub value_is : Value → spoken.Value
value_is (Number n) = number n
value_is (View v) = view (view_is v)

abbrev pub value_shown : Value → List ℕ
value_shown v = value_text (value_is v)

unfoldable pub row_of : ℕ → ℕ → Word → Value → List ℕ
row_of n who w v = parted (dec_text n ∷ dec_text who ∷ word_is w ∷ value_shown v ∷ []) ++ (10 ∷ [])

-- The row's fields are those of the reply.
pub record RowShows (r : Reply) (who : ℕ) (w : Word) (v : Value) : Type 0 where
  pub named : r.who ≡ who
  pub word : word_for r.answer ≡ w
  pub value : answer_value r.number r.answer ≡ value_is v
