-- The rows: their text in runs, how long it is, and that it is the text of the reply that it shows.
--     row-most   no row has more than 40 bytes
--     shown      the row that is written is that of the reply
-- Assumes nothing.
use Prim.Native.Nat.{ℕ, zero, suc, ◌+◌, ◌-◌, ◌<◌, ◌≤◌, min}
use native.Mathlib.Omega.{arith}
use mathlib.Core.Path.{◌≡◌, refl, sym, ap, ap₂, ◌∙◌}
use mathlib.Core.List.{List, [], ◌∷◌, ◌++◌, append_assoc}
use lib.ListN.{length, take, drop, set, length-append, take-append-drop, drop_of_length-le}
use lib.Seq.{sets, drop-drop, length-sets, length-take-le, sets-eq, take-append_seam}
use borrow.Rule.Slice.PartMut.{put_mid}
use native.Mathlib.Decide.{dec_lt}
use Rattle.protocol.specs.Controller.{Answer, taken, signed, entered, delivered, left, quiet, refused}
use Rattle.text.specs.Text.{dec_text}
use Rattle.text.proofs.Decimal.{long-below}
use Rattle.text.specs.Written.{Wrote}
use Rattle.text.proofs.Stores.{sets-append, both, wrote_as}
use Rattle.statements.specs.Text.{parted}
use Rattle.bench.specs.declared.row.Word.{Word}
use Rattle.bench.specs.declared.row.Word.TheVariants.{Taken, Signed, Entered, Delivered, Left, Quiet, Refused}
use Rattle.bench.specs.declared.row.Value.{Value}
use Rattle.bench.specs.Bench.{Reply}
use Rattle.bench.specs.Rows.{word_text, row_text}
use Rattle.bench.specs.Writing.{word_for, word_is, value_shown, row_of, RowShows}

-- ---- what has no room

set_past : (l : List ℕ) (i v : ℕ) → length l ≤ i → set l i v ≡ l
set_past [] i v h = refl
set_past (x ∷ l) zero v h = absurd (omega arith)
set_past (x ∷ l) (suc i) v h = ap (λ t. x ∷ t) (set_past l i v (omega arith))

sets-past : (xs l : List ℕ) (i : ℕ) → length l ≤ i → sets l i xs ≡ l
sets-past [] l i h = refl
sets-past (x ∷ xs) l i h = ap (λ t. sets t (suc i) xs) (set_past l i x h) ∙ sets-past xs l (suc i) (omega arith)

-- as much of a text as has room, copied
module _ (out t : List ℕ) (at start room : ℕ) (e : start ≡ min at (length out)) (f : room ≡ min (length t) (length out - start)) where
  rest-gone : (o : List ℕ) → length o ≡ length out → sets o (start + room) (drop room t) ≡ o
  rest-gone o h = elim (dec_lt room (length t)) [
    | yes l ↦ sets-past (drop room t) o (start + room) (omega arith)
    | no l ↦ ap (sets o (start + room)) (drop_of_length-le t (omega arith))
  ]

  -- it stands where the text was to stand
  there : at < length out → put_mid start room out (take room t) ≡ sets out at t
  there l =
      let n : length (take room t) ≡ room = length-take-le room t (omega arith) in
      let s : start ≡ at = omega arith in
      ap (λ d. take start out ++ (take room t ++ d)) (drop-drop room start out ∙ ap (λ k. drop (start + k) out) (sym n))
      ∙ sym (append_assoc (take start out) (take room t) (drop (start + length (take room t)) out)) ∙ sym (sets-eq (take room t) out start (omega arith))
      ∙ sym (rest-gone (sets out start (take room t)) (length-sets out start (take room t))) ∙ ap (λ k. sets (sets out start (take room t)) (start + k) (drop room t)) (sym n)
      ∙ sym (sets-append (take room t) (drop room t) out start) ∙ ap₂ (sets out) s (take-append-drop room t)

  pub put-part : (k : ℕ) (part : List ℕ) → k ≡ room → part ≡ take room t → put_mid start k out part ≡ sets out at t
  put-part k part g h = ap₂ (λ i p. put_mid start i out p) g h ∙ elim (dec_lt at (length out)) [
    | yes l ↦ there l
    | no l ↦ (let z : room ≡ 0 = omega arith in let s : start ≡ length out = omega arith in ap₂ (λ i j. put_mid i j out (take j t)) s z ∙ take-append-drop (length out) out ∙ sym (sets-past t out at (omega arith)))
  ]

-- a row that was written by itself, and what of it was put
module _ (one one' row : List ℕ) (end : ℕ) (alone : Wrote one 0 row end one' × (length row ≤ 40)) (l : length one ≡ 40) where
  alone-is : take end one' ≡ row
  alone-is =
      let n : end ≡ length row = omega (arith, alone.0.next) in
      ap₂ take n (alone.0.is ∙ sets-eq row one 0 (omega arith)) ∙ take-append_seam row (drop (0 + length row) one)

  pub alone-long : (end ≡ length (take end one')) × (length (take end one') ≤ 40)
  alone-long = (omega (arith, alone.0.next, ap length alone-is), omega (arith, ap length alone-is))

  pub alone-put : (out : List ℕ) (at r : ℕ) (out' : List ℕ) → Wrote out at (take end one') r out' → Wrote out at row r out' × (length row ≤ 40)
  alone-put out at r out' w = (wrote_as alone-is w, alone.1)

-- ---- how long the fields are
pub word-most : (w : Word) → length (word_is w) ≤ 9
word-most Taken = omega arith
word-most Signed = omega arith
word-most Entered = omega arith
word-most Delivered = omega arith
word-most Left = omega arith
word-most Quiet = omega arith
word-most Refused = omega arith

pub line-most : (n : ℕ) → n < 100000 → length (dec_text n) ≤ 5
line-most n h = long-below 4 n (omega arith)

pub who-most : (n : ℕ) → n < 100 → length (dec_text n) ≤ 2
who-most n h = long-below 1 n (omega arith)

-- ---- a row, in runs
module _ (n who : ℕ) (w : Word) (v : Value) where
  runs : row_of n who w v ≡ (dec_text n ++ ((44 ∷ dec_text who) ++ ((44 ∷ word_is w) ++ (44 ∷ value_shown v)))) ++ (10 ∷ [])
  unfolding row_of parted
  runs = refl

  row-size : length (row_of n who w v) ≡ length (dec_text n) + length (dec_text who) + length (word_is w) + length (value_shown v) + 4
  row-size =
      ap length runs
      ∙ omega (
        arith,
        length-append (dec_text n ++ ((44 ∷ dec_text who) ++ ((44 ∷ word_is w) ++ (44 ∷ value_shown v)))) (10 ∷ []),
        length-append (dec_text n) ((44 ∷ dec_text who) ++ ((44 ∷ word_is w) ++ (44 ∷ value_shown v))),
        length-append (dec_text who) ((44 ∷ word_is w) ++ (44 ∷ value_shown v)),
        length-append (word_is w) (44 ∷ value_shown v),
      )

  -- NO ROW HAS MORE THAN 40 BYTES
  pub row-most : n < 100000 → who < 100 → length (value_shown v) ≤ 20 → length (row_of n who w v) ≤ 40
  row-most hn hw hv = omega (arith, row-size, line-most n hn, who-most who hw, word-most w)

  pub row_wrote : {out₀ out₁ out₂ out₃ out₄ : List ℕ} {at a b c d : ℕ} → Wrote out₀ at (dec_text n) a out₁ → Wrote out₁ a (44 ∷ dec_text who) b out₂ → Wrote out₂ b (44 ∷ word_is w) c out₃
      → Wrote out₃ c (44 ∷ value_shown v) d out₄ → Wrote out₀ at (row_of n who w v) (d + 1) (set out₄ d 10)
  row_wrote x y z u = wrote_as (sym runs) (both (both x (both y (both z u))) (record { next = refl; is = refl }))

-- ---- the reply that a row shows
word-for : (a : Answer) → word_is (word_for a) ≡ word_text a
word-for taken = refl
word-for (signed s) = refl
word-for (entered v) = refl
word-for (delivered i m who) = refl
word-for left = refl
word-for quiet = refl
word-for (refused r) = refl

-- THE ROW IS THAT OF THE REPLY
pub shown : (n : ℕ) {r : Reply} {who : ℕ} {w : Word} {v : Value} → RowShows r who w v → row_of n who w v ≡ row_text n r
unfolding row_of row_text
shown n {r} {who} {w} {v} s = rw (← s.named, ← s.word, ← s.value, word-for r.answer)
