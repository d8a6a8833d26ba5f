-- Two tables in lent memory, each of at most 512 rows with an index: rows are found by their slots, the newest first.
-- Of the numbers, table t, 0 or 1, has the 1280 from t * 1280 on: for each of 256 slots its newest row plus one, for each row the one before it in its slot plus one,
-- and for each row a number. A 0 in the first two stands for none. Of the words, table t has the 512 from t * 512 on: the key of each row.
-- Assumes nothing.
use Rattle.std.specs.Prelude.{◌≡◌, Bool, true, List, ℕ, zero, suc, ◌+◌, ◌*◌, ◌/◌, ◌%◌, ◌≤◌, ◌<◌, Option, Some, None, get_or}

-- ---- what the memory holds of table t

-- The row that a link stands for: the link is the row's number plus one, or 0 where there is none.
unfoldable pub row_of : ℕ → Option ℕ
row_of zero = None
row_of (suc i) = Some i

-- The newest row of slot s.
unfoldable pub newest_at : List ℕ → ℕ → ℕ → Option ℕ
newest_at R t s = row_of (get_or R (t * 1280 + s) 0)

-- The row before row i in its slot.
unfoldable pub older_at : List ℕ → ℕ → ℕ → Option ℕ
older_at R t i = row_of (get_or R (t * 1280 + 256 + i) 0)

unfoldable pub number_at : List ℕ → ℕ → ℕ → ℕ
number_at R t i = get_or R (t * 1280 + 768 + i) 0

unfoldable pub key_at : List ℕ → ℕ → ℕ → ℕ
key_at K t i = get_or K (t * 512 + i) 0

-- R and R' have the same table t, and K and K' the same keys of it.

pub record SameRows (R R' : List ℕ) (t : ℕ) : Type 0 where
  pub newest : (s : ℕ) → s < 256 → newest_at R' t s ≡ newest_at R t s
  pub older : (i : ℕ) → i < 512 → older_at R' t i ≡ older_at R t i
  pub number : (i : ℕ) → i < 512 → number_at R' t i ≡ number_at R t i

pub record SameKeys (K K' : List ℕ) (t : ℕ) : Type 0 where
  pub key : (i : ℕ) → i < 512 → key_at K' t i ≡ key_at K t i

-- ---- what is written to table t: nothing else changes

-- No slot has a row.
pub record Empty (R : List ℕ) (t : ℕ) : Type 0 where
  pub none : (s : ℕ) → s < 256 → newest_at R t s ≡ None

-- The slots were emptied.
pub record SlotsCleared (R : List ℕ) (t : ℕ) (R' : List ℕ) : Type 0 where
  pub empty : Empty R' t
  pub others : (u : ℕ) → u < 2 → (u ≡ t → ⊥) → SameRows R R' u

-- Row i went into slot s.
pub record RowLinked (R : List ℕ) (t s i : ℕ) (R' : List ℕ) : Type 0 where
  pub newest : newest_at R' t s ≡ Some i
  pub older : older_at R' t i ≡ newest_at R t s
  pub slots : (z : ℕ) → z < 256 → (z ≡ s → ⊥) → newest_at R' t z ≡ newest_at R t z
  pub links : (j : ℕ) → j < 512 → (j ≡ i → ⊥) → older_at R' t j ≡ older_at R t j
  pub numbers : (j : ℕ) → j < 512 → number_at R' t j ≡ number_at R t j
  pub others : (u : ℕ) → u < 2 → (u ≡ t → ⊥) → SameRows R R' u

-- Row i has the number x now.
pub record RowNumbered (R : List ℕ) (t i x : ℕ) (R' : List ℕ) : Type 0 where
  pub here : number_at R' t i ≡ x
  pub numbers : (j : ℕ) → j < 512 → (j ≡ i → ⊥) → number_at R' t j ≡ number_at R t j
  pub slots : (z : ℕ) → z < 256 → newest_at R' t z ≡ newest_at R t z
  pub links : (j : ℕ) → j < 512 → older_at R' t j ≡ older_at R t j
  pub others : (u : ℕ) → u < 2 → (u ≡ t → ⊥) → SameRows R R' u

-- Row i has the key w now.
pub record RowKeyed (K : List ℕ) (t i w : ℕ) (K' : List ℕ) : Type 0 where
  pub here : key_at K' t i ≡ w
  pub keys : (j : ℕ) → j < 512 → (j ≡ i → ⊥) → key_at K' t j ≡ key_at K t j
  pub others : (u : ℕ) → u < 2 → (u ≡ t → ⊥) → SameKeys K K' u

-- ---- the index, by any slots of the rows

-- Of the rows below n that have P, r is the newest, or None where there is none.
pub record LatestOf (P : ℕ → Type 0) (n : ℕ) (r : Option ℕ) : Type 0 where
  pub here : (i : ℕ) → r ≡ Some i → (i < n) × P i
  pub all : (i : ℕ) → i < n → P i → (j : ℕ) × (r ≡ Some j) × (i ≤ j)

-- Of the rows below n that `at` puts into slot s, x is the newest.
abbrev pub Newest : (ℕ → ℕ) → ℕ → ℕ → Option ℕ → Type 0
Newest at n s x = LatestOf (λ i. at i ≡ s) n x

-- The index of table t leads to the rows below n: to the newest of each slot, and from each row to the one before it in its slot.
pub record Chained (at : ℕ → ℕ) (R : List ℕ) (t n : ℕ) : Type 0 where
  pub slots : (s : ℕ) → s < 256 → Newest at n s (newest_at R t s)
  pub links : (i : ℕ) → i < n → Newest at i (at i) (older_at R t i)

-- The index of table t leads from x on down slot s: `at` gives the rows their slots, and of those below m that are in s x is the newest.
pub record Walks (at : ℕ → ℕ) (R : List ℕ) (t s m : ℕ) (x : Option ℕ) : Type 0 where
  pub rows : ℕ
  pub few : rows ≤ 512
  pub chained : Chained at R t rows
  pub most : m ≤ rows
  pub newest : Newest at m s x

-- It does so for some slot.
pub record Leads (R : List ℕ) (t : ℕ) (x : Option ℕ) : Type 0 where
  pub at : ℕ → ℕ
  pub slot : ℕ
  pub below : ℕ
  pub walks : Walks at R t slot below x

-- What a closure answers of a row is its test.
abbrev pub Tells : (ℕ → Bool → Type 0) → (ℕ → Bool) → Type 0
Tells answers test = (row : ℕ) (b : Bool) → row < 512 → answers row b → b ≡ test row

-- r is the first row from x on down its slot that has the test: the newest of the slot's rows below m.
pub record Finds (R : List ℕ) (t : ℕ) (x : Option ℕ) (test : ℕ → Bool) (r : Option ℕ) : Type 0 where
  pub newest : (at : ℕ → ℕ) (s m : ℕ) → Walks at R t s m x → LatestOf (λ i. (at i ≡ s) × (test i ≡ true)) m r

-- ---- the index by keys

-- The slot of a word: both halves go into it.
unfoldable pub slot_of : ℕ → ℕ
slot_of w = (w % 4294967296 * 2654435769 + w / 4294967296 * 668265263) / 16777216 % 256

-- The slot of row i.
unfoldable pub slot_at : List ℕ → ℕ → ℕ → ℕ
slot_at K t i = slot_of (key_at K t i)

-- The n rows of table t are found by their keys.
pub record Indexed (K R : List ℕ) (t n : ℕ) : Type 0 where
  pub few : n ≤ 512
  pub chained : Chained (slot_at K t) R t n

-- Row i, with the key w and the number x, was put behind those below it.
pub record RowAdded (K R : List ℕ) (t i w x : ℕ) (K' R' : List ℕ) : Type 0 where
  pub key : key_at K' t i ≡ w
  pub number : number_at R' t i ≡ x
  pub keys : (j : ℕ) → j < 512 → (j ≡ i → ⊥) → key_at K' t j ≡ key_at K t j
  pub numbers : (j : ℕ) → j < 512 → (j ≡ i → ⊥) → number_at R' t j ≡ number_at R t j
  pub indexed : Indexed K R t i → Indexed K' R' t (i + 1)
  pub rows : (u : ℕ) → u < 2 → (u ≡ t → ⊥) → SameRows R R' u
  pub others : (u : ℕ) → u < 2 → (u ≡ t → ⊥) → SameKeys K K' u

-- Row i has the key w.
abbrev pub HasKey : List ℕ → ℕ → ℕ → ℕ → Type 0
HasKey K t w i = key_at K t i ≡ w

-- Of the rows below n with the key w, r is the newest.
abbrev pub Latest : List ℕ → ℕ → ℕ → ℕ → Option ℕ → Type 0
Latest K t w n r = LatestOf (HasKey K t w) n r

-- A search from row n down has come to r, a row with the key w or None, and no row above r has p.
pub record Passed (p : ℕ → Bool) (K : List ℕ) (t w n : ℕ) (r : Option ℕ) : Type 0 where
  pub here : (i : ℕ) → r ≡ Some i → (i < n) × HasKey K t w i
  pub all : (i : ℕ) → i < n → p i ≡ true → (j : ℕ) × (r ≡ Some j) × (i ≤ j)
