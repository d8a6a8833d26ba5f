-- The numbers of a record: which it has, marks of them, and those that it lacks at its end.
-- Assumes nothing.
use Rattle.std.specs.Prelude.{if◌then◌else◌}
use mathlib.Core.Path.{◌≡◌, refl, sym, ap, ap₂, subst, ◌∙◌}
use mathlib.Core.Bool.{Bool, true, false, not, ◌&&◌, ◌||◌}
use mathlib.Core.List.{List, [], ◌∷◌, ◌++◌, append_assoc, append-nil}
use Prim.Native.Nat.{ℕ, zero, suc, ◌+◌, ◌-◌, ◌≤◌, ◌<◌}
use Rattle.std.specs.List.{list_any}
use Rattle.std.proofs.lemmas.List.Folds.{list_any_more}
use native.Mathlib.Decide.{dec_lt, ℕ_discrete}
use native.Mathlib.Numerals.{add-one}
use native.Mathlib.Nat.{add-zero}
use native.Mathlib.Omega.{arith}
use lib.Dec.{T, eqb}
use lib.ListN.{length, take, get_or, set, replicate, length-replicate, get_or-replicate, length-append, length-set}
use lib.Seq.{get_or-set_same, get_or-set_other}
use borrow.Author.Tests.{eq-eqb, ne_eqb}
use Rattle.protocol.specs.Lists.{any, filter, list_of}
use Rattle.protocol.proofs.Numbered.{list_of-length, list_of-cong}
use Rattle.views.proofs.Tables.{any_append, any-zero, any-suc}
use Rattle.pool.specs.Pool.{pool_len, record_len, AllIn}
use Rattle.pool.specs.Changes.{PushedTo}
use Rattle.bench.specs.Seats.{numbers_in, has_number, Full, Keeps, NumbersBelow, NumberMarks, Marked, FirstFree, unmarked, RecordFilled}

-- ---- which numbers a record has

abbrev pub ids : List ℕ → ℕ → ℕ
ids R i = get_or R i 0

eqb-either : (a b : ℕ) → eqb a b ≡ eqb b a
eqb-either a b = elim (ℕ_discrete a b) [
  | yes e ↦ eq-eqb a b e ∙ sym (eq-eqb b a (sym e))
  | no e ↦ ne_eqb a b e ∙ sym (ne_eqb b a (λ q. e (sym q)))
]

-- one among a record's numbers
pub listed : (R : List ℕ) (n m : ℕ) → m ≡ record_len R → m ≤ length R → list_any (λ y. eqb y n) (take m R) ≡ has_number R n
unfolding has_number numbers_in list_of any
listed R n m e l = go m l ∙ ap (λ k. any (eqb n) (list_of k (ids R))) e
  where
    go : (k : ℕ) → k ≤ length R → list_any (λ y. eqb y n) (take k R) ≡ any (eqb n) (list_of k (ids R))
    go zero h = refl
    go (suc k) h =
        ap (λ j. list_any (λ y. eqb y n) (take j R)) (sym (add-one k)) ∙ list_any_more (λ y. eqb y n) R k 0 (omega arith)
        ∙ ap₂ ◌||◌ (go k (omega arith)) (eqb-either (get_or R k 0) n) ∙ sym (any-suc (eqb n) (ids R) k)

-- a record that has what another has
pub keeps_same : (R : List ℕ) → Keeps R R
unfolding Keeps
keeps_same R i e = e

pub full-kept : (R R' : List ℕ) → Keeps R R' → (m : ℕ) → Full R m → Full R' m
unfolding Keeps Full
full-kept R R' k m f i l = k i (f i l)

pub full-none : (R : List ℕ) → Full R 0
unfolding Full
full-none R i l = absurd (omega arith)

-- its numbers once one more is at its end
pub numbers-pushed : (R R' : List ℕ) (id : ℕ) → PushedTo R id R' → record_len R < 512 → numbers_in R' ≡ numbers_in R ++ (id ∷ [])
unfolding numbers_in list_of
numbers-pushed R R' id p l =
    (let e : record_len R' ≡ suc (record_len R) = omega (arith, p.len) in ap (λ m. list_of m (ids R')) e)
    ∙ ap₂ (λ t x. t ++ (x ∷ [])) (list_of-cong (record_len R) (ids R') (ids R) p.first) (p.last l)

listed_by : (R R' : List ℕ) (L : List ℕ) (i : ℕ) → numbers_in R' ≡ numbers_in R ++ L → has_number R i ≡ true → has_number R' i ≡ true
unfolding has_number
listed_by R R' L i q e = ap (any (eqb i)) q ∙ any_append (eqb i) (numbers_in R) L ∙ ap (λ b. b || any (eqb i) L) e

numbers-full : (R R' : List ℕ) (id : ℕ) → PushedTo R id R' → (record_len R < 512 → ⊥) → numbers_in R' ≡ numbers_in R ++ []
unfolding numbers_in
numbers-full R R' id p l =
    (let e : record_len R' ≡ record_len R = omega (arith, p.len) in ap (λ m. list_of m (ids R')) e)
    ∙ list_of-cong (record_len R) (ids R') (ids R) p.first ∙ sym (append-nil (list_of (record_len R) (ids R)))

pub keeps-pushed : (R R' : List ℕ) (id : ℕ) → PushedTo R id R' → Keeps R R'
unfolding Keeps
keeps-pushed R R' id p i e = elim (dec_lt (record_len R) 512) [
  | yes l ↦ listed_by R R' (id ∷ []) i (numbers-pushed R R' id p l) e
  | no l ↦ listed_by R R' [] i (numbers-full R R' id p l) e
]

pub below-pushed : (R R' : List ℕ) (id m : ℕ) → PushedTo R id R' → id < m → NumbersBelow R m → NumbersBelow R' m
unfolding NumbersBelow
below-pushed R R' id m p l b j h = elim (dec_lt j (record_len R)) [
  | yes a ↦ (let q = p.first j a in let v = b j a in omega arith)
  | no a ↦ (let q : record_len R ≡ j = omega (arith, p.len) in let v = p.last (omega (arith, p.len)) in subst (λ x. get_or R' x 0 < m) q (omega arith))
]

pub within-pool : (W R : List ℕ) → AllIn W R → NumbersBelow R (pool_len W)
unfolding AllIn NumbersBelow
within-pool W R w = w

pub pool-within : (W R : List ℕ) → NumbersBelow R (pool_len W) → AllIn W R
unfolding AllIn NumbersBelow
pool-within W R w = w

pub pool-most : (W : List ℕ) → pool_len W ≤ 512
unfolding pool_len
pool-most W = omega arith

pub in-pool-below : (W R : List ℕ) → AllIn W R → NumbersBelow R 512
unfolding AllIn NumbersBelow
in-pool-below W R w i h = let a = w i h in omega (arith, pool-most W)

-- ---- marks

-- marks of the first i numbers
pub record MarksTo (f : ℕ → ℕ) (i : ℕ) (marks : List Bool) : Type 0 where
  pub long : length marks ≡ 512
  pub tells : (n : ℕ) → n < 512 → get_or marks n false ≡ any (eqb n) (list_of i f)

or-true : (b : Bool) → (b || true) ≡ true
or-true true = refl
or-true false = refl

or-false : (b : Bool) → (b || false) ≡ b
or-false true = refl
or-false false = refl

any_next : (f : ℕ → ℕ) (n i : ℕ) → any (eqb n) (list_of (i + 1) f) ≡ (any (eqb n) (list_of i f) || eqb n (f i))
any_next f n i = ap (λ m. any (eqb n) (list_of m f)) (add-one i) ∙ any-suc (eqb n) f i

module _ (f : ℕ → ℕ) where
  marks-next : (i : ℕ) (marks : List Bool) → f i < 512 → MarksTo f i marks → MarksTo f (i + 1) (set marks (f i) true)
  marks-next i marks l m = record {
    long = length-set marks (f i) true ∙ m.long;
    tells = λ n h. elim (ℕ_discrete n (f i)) [
      | yes e ↦ ap (λ j. get_or (set marks (f i) true) j false) e ∙ get_or-set_same marks (f i) true false (omega (arith, m.long)) ∙ sym (any_next f n i ∙ ap (λ b. any (eqb n) (list_of i f) || b) (eq-eqb n (f i) e) ∙ or-true (any (eqb n) (list_of i f)))
      | no e ↦ get_or-set_other marks (f i) n true false e ∙ m.tells n h ∙ sym (any_next f n i ∙ ap (λ b. any (eqb n) (list_of i f) || b) (ne_eqb n (f i) e) ∙ or-false (any (eqb n) (list_of i f)))
    ];
  }

  pub marks-first : (m : ℕ) → m ≡ 512 → MarksTo f 0 (replicate m false)
  marks-first m e = record { long = length-replicate m false ∙ e; tells = λ n h. get_or-replicate m n false false (omega arith) ∙ sym (any-zero (eqb n) f) }

  pub marks-stored : (i id : ℕ) (marks : List Bool) → id ≡ f i → id < 512 → MarksTo f i marks → MarksTo f (i + 1) (set marks id true)
  marks-stored i id marks e l m = subst (λ x. MarksTo f (i + 1) (set marks x true)) (sym e) (marks-next i marks (omega arith) m)

pub marks-are : (R : List ℕ) (i : ℕ) (marks : List Bool) → i ≡ record_len R → MarksTo (ids R) i marks → NumberMarks R marks
unfolding has_number numbers_in
marks-are R i marks e m = record { tells = λ n h. m.tells n h ∙ ap (λ j. any (eqb n) (list_of j (ids R))) e }

pub number-below : (R : List ℕ) (m i : ℕ) → NumbersBelow R m → i < record_len R → get_or R i 0 < m
unfolding NumbersBelow
number-below R m i b l = b i l

-- one mark more
pub marked-none : (marks : List Bool) (i : ℕ) → Marked marks i i
unfolding Marked
marked-none marks i k l h = absurd (omega arith)

pub marked_more : (marks : List Bool) (i j : ℕ) → Marked marks i j → get_or marks j false ≡ true → Marked marks i (j + 1)
unfolding Marked
marked_more marks i j m e k l h = elim (ℕ_discrete k j) [
  | yes q ↦ ap (λ x. get_or marks x false) q ∙ e
  | no q ↦ m k l (omega arith)
]

pub marked-both : (marks : List Bool) (i j n : ℕ) → Marked marks i j → Marked marks j n → Marked marks i n
unfolding Marked
marked-both marks i j n m q k l h = elim (dec_lt k j) [
  | yes p ↦ m k l p
  | no p ↦ q k (omega arith) h
]

both_true : (a b : Bool) → (a && b) ≡ true → (a ≡ true) × (b ≡ true)
both_true true true e = (refl, refl)
both_true true false e = absurd (subst T (sym e) tt)
both_true false b e = absurd (subst T (sym e) tt)

pub marked-eight : (marks : List Bool) (i : ℕ)
    → (((((((get_or marks i false && get_or marks (i + 1) false) && get_or marks (i + 2) false) && get_or marks (i + 3) false) && get_or marks (i + 4) false) && get_or marks (i + 5) false) && get_or marks (i + 6) false) && get_or marks (i + 7) false) ≡ true
    → Marked marks i (i + 8)
unfolding Marked
marked-eight marks i e k l m = ap (λ x. get_or marks x false) (omega arith) ∙ go (k - i) (omega arith)
  where
    e6 : ((((((get_or marks i false && get_or marks (i + 1) false) && get_or marks (i + 2) false) && get_or marks (i + 3) false) && get_or marks (i + 4) false) && get_or marks (i + 5) false) && get_or marks (i + 6) false) ≡ true
    e6 = (both_true ((((((get_or marks i false && get_or marks (i + 1) false) && get_or marks (i + 2) false) && get_or marks (i + 3) false) && get_or marks (i + 4) false) && get_or marks (i + 5) false) && get_or marks (i + 6) false) (get_or marks (i + 7) false) e).0

    e5 : (((((get_or marks i false && get_or marks (i + 1) false) && get_or marks (i + 2) false) && get_or marks (i + 3) false) && get_or marks (i + 4) false) && get_or marks (i + 5) false) ≡ true
    e5 = (both_true (((((get_or marks i false && get_or marks (i + 1) false) && get_or marks (i + 2) false) && get_or marks (i + 3) false) && get_or marks (i + 4) false) && get_or marks (i + 5) false) (get_or marks (i + 6) false) e6).0

    e4 : ((((get_or marks i false && get_or marks (i + 1) false) && get_or marks (i + 2) false) && get_or marks (i + 3) false) && get_or marks (i + 4) false) ≡ true
    e4 = (both_true ((((get_or marks i false && get_or marks (i + 1) false) && get_or marks (i + 2) false) && get_or marks (i + 3) false) && get_or marks (i + 4) false) (get_or marks (i + 5) false) e5).0

    e3 : (((get_or marks i false && get_or marks (i + 1) false) && get_or marks (i + 2) false) && get_or marks (i + 3) false) ≡ true
    e3 = (both_true (((get_or marks i false && get_or marks (i + 1) false) && get_or marks (i + 2) false) && get_or marks (i + 3) false) (get_or marks (i + 4) false) e4).0

    e2 : ((get_or marks i false && get_or marks (i + 1) false) && get_or marks (i + 2) false) ≡ true
    e2 = (both_true ((get_or marks i false && get_or marks (i + 1) false) && get_or marks (i + 2) false) (get_or marks (i + 3) false) e3).0

    e1 : (get_or marks i false && get_or marks (i + 1) false) ≡ true
    e1 = (both_true (get_or marks i false && get_or marks (i + 1) false) (get_or marks (i + 2) false) e2).0

    go : (j : ℕ) → j < 8 → get_or marks (i + j) false ≡ true
    go zero h = ap (λ x. get_or marks x false) (add-zero i) ∙ (both_true (get_or marks i false) (get_or marks (i + 1) false) e1).0
    go (suc zero) h = (both_true (get_or marks i false) (get_or marks (i + 1) false) e1).1
    go (suc (suc zero)) h = (both_true (get_or marks i false && get_or marks (i + 1) false) (get_or marks (i + 2) false) e2).1
    go (suc (suc (suc zero))) h = (both_true ((get_or marks i false && get_or marks (i + 1) false) && get_or marks (i + 2) false) (get_or marks (i + 3) false) e3).1
    go (suc (suc (suc (suc zero)))) h = (both_true (((get_or marks i false && get_or marks (i + 1) false) && get_or marks (i + 2) false) && get_or marks (i + 3) false) (get_or marks (i + 4) false) e4).1
    go (suc (suc (suc (suc (suc zero))))) h = (both_true ((((get_or marks i false && get_or marks (i + 1) false) && get_or marks (i + 2) false) && get_or marks (i + 3) false) && get_or marks (i + 4) false) (get_or marks (i + 5) false) e5).1
    go (suc (suc (suc (suc (suc (suc zero)))))) h = (both_true (((((get_or marks i false && get_or marks (i + 1) false) && get_or marks (i + 2) false) && get_or marks (i + 3) false) && get_or marks (i + 4) false) && get_or marks (i + 5) false) (get_or marks (i + 6) false) e6).1
    go (suc (suc (suc (suc (suc (suc (suc zero))))))) h = (both_true ((((((get_or marks i false && get_or marks (i + 1) false) && get_or marks (i + 2) false) && get_or marks (i + 3) false) && get_or marks (i + 4) false) && get_or marks (i + 5) false) && get_or marks (i + 6) false) (get_or marks (i + 7) false) e).1
    go (suc (suc (suc (suc (suc (suc (suc (suc j)))))))) h = absurd (omega arith)

-- ---- the numbers that have no mark

pub filter-append : {A : Type 0} (p : A → Bool) (k l : List A) → filter p (k ++ l) ≡ filter p k ++ filter p l
unfolding filter
filter-append p [] l = refl
filter-append {A} p (a ∷ k) l = go (p a) (filter-append p k l)
  where
    go : (b : Bool) → filter p (k ++ l) ≡ filter p k ++ filter p l → (if b then a ∷ filter p (k ++ l) else filter p (k ++ l)) ≡ (if b then a ∷ filter p k else filter p k) ++ filter p l
    go true e = ap (λ t. a ∷ t) e
    go false e = e

pub filter-one : {A : Type 0} (p : A → Bool) (a : A) (b : Bool) → p a ≡ b → filter p (a ∷ []) ≡ (if b then a ∷ [] else [])
unfolding filter
filter-one p a b e = rw e

module _ (marks : List Bool) where
  pub unmarked-none : unmarked marks 0 ≡ []
  unfolding unmarked list_of filter
  unmarked-none = refl

  unmarked-next : (i : ℕ) (b : Bool) → get_or marks i false ≡ b → unmarked marks (i + 1) ≡ unmarked marks i ++ (if not b then i ∷ [] else [])
  unfolding unmarked list_of
  unmarked-next i b e =
      ap (λ m. filter (λ j. not (get_or marks j false)) (list_of m (λ j. j))) (add-one i)
      ∙ filter-append (λ j. not (get_or marks j false)) (list_of i (λ j. j)) (i ∷ [])
      ∙ ap (λ t. filter (λ j. not (get_or marks j false)) (list_of i (λ j. j)) ++ t) (filter-one (λ j. not (get_or marks j false)) i (not b) (ap not e))

  unmarked-skip : (i : ℕ) → get_or marks i false ≡ true → unmarked marks (i + 1) ≡ unmarked marks i
  unmarked-skip i e = unmarked-next i true e ∙ append-nil (unmarked marks i)

  unmarked-more : (i : ℕ) → get_or marks i false ≡ false → unmarked marks (i + 1) ≡ unmarked marks i ++ (i ∷ [])
  unmarked-more i e = unmarked-next i false e

  pub unmarked-over : (i j : ℕ) → i ≤ j → Marked marks i j → unmarked marks j ≡ unmarked marks i
  unfolding Marked
  unmarked-over i j l p = ap (unmarked marks) (let e : j ≡ i + (j - i) = omega arith in e) ∙ go (j - i) (omega arith)
    where
      go : (n : ℕ) → i + n ≤ j → unmarked marks (i + n) ≡ unmarked marks i
      go zero q = ap (unmarked marks) (add-zero i)
      go (suc n) q = ap (unmarked marks) (let e : i + suc n ≡ (i + n) + 1 = omega arith in e) ∙ unmarked-skip (i + n) (p (i + n) (omega arith) (omega arith)) ∙ go n (omega arith)

  -- the first of them
  unmarked-first : (i j n : ℕ) → FirstFree marks i n j → unmarked marks (j + 1) ≡ unmarked marks i ++ (j ∷ [])
  unmarked-first i j n f = unmarked-more j f.free ∙ ap (λ t. t ++ (j ∷ [])) (unmarked-over i j f.from f.passed)

  pub count-first : 0 ≡ length (unmarked marks 0)
  count-first = sym (ap length unmarked-none)

  pub count_next : (i j n count : ℕ) → FirstFree marks i n j → count ≡ length (unmarked marks i) → count + 1 ≡ length (unmarked marks (j + 1))
  count_next i j n count f c = ap (λ t. t + 1) c ∙ sym (ap length (unmarked-first i j n f) ∙ length-append (unmarked marks i) (j ∷ []))

  pub count-end : (i n count : ℕ) → i ≤ n → Marked marks i n → count ≡ length (unmarked marks i) → count ≡ length (unmarked marks n)
  count-end i n count l m c = c ∙ sym (ap length (unmarked-over i n l m))

  -- the record with the first of them at its end

  pub fill-first : (R : List ℕ) → RecordFilled R marks 0 R
  fill-first R = record { numbers = λ l. sym (ap (λ t. numbers_in R ++ t) unmarked-none ∙ append-nil (numbers_in R)); below = λ m l b. b }

  numbers-length : (R : List ℕ) → length (numbers_in R) ≡ record_len R
  unfolding numbers_in
  numbers-length R = list_of-length (record_len R) (ids R)

  pub fill-next : (R R' R'' : List ℕ) (i j n : ℕ) → FirstFree marks i n j → RecordFilled R marks i R' → PushedTo R' j R'' → RecordFilled R marks (j + 1) R''
  fill-next R R' R'' i j n f m p =
      let q : unmarked marks (j + 1) ≡ unmarked marks i ++ (j ∷ []) = unmarked-first i j n f in
      let s : length (unmarked marks (j + 1)) ≡ length (unmarked marks i) + 1 = ap length q ∙ length-append (unmarked marks i) (j ∷ []) in
      record {
        numbers = λ l. (
            let u : numbers_in R' ≡ numbers_in R ++ unmarked marks i = m.numbers (omega arith) in
            let v : record_len R' ≡ record_len R + length (unmarked marks i) = sym (numbers-length R') ∙ ap length u ∙ length-append (numbers_in R) (unmarked marks i) ∙ ap (λ t. t + length (unmarked marks i)) (numbers-length R) in
            numbers-pushed R' R'' j p (omega arith) ∙ ap (λ t. t ++ (j ∷ [])) u ∙ append_assoc (numbers_in R) (unmarked marks i) (j ∷ []) ∙ sym (ap (λ t. numbers_in R ++ t) q));
        below = λ m' l b. below-pushed R' R'' j m' p (omega arith) (m.below m' (omega (arith, f.from)) b);
      }

  pub fill_end : (R R' : List ℕ) (i n : ℕ) → i ≤ n → Marked marks i n → RecordFilled R marks i R' → RecordFilled R marks n R'
  fill_end R R' i n l p f =
      let e : unmarked marks n ≡ unmarked marks i = unmarked-over i n l p in
      record { numbers = λ r. f.numbers (omega (arith, ap length e)) ∙ sym (ap (λ t. numbers_in R ++ t) e); below = λ m h b. f.below m (omega arith) b }

  -- nothing is missing
  pub fill_none : (R : List ℕ) (n : ℕ) → length (unmarked marks n) ≡ 0 → RecordFilled R marks n R
  fill_none R n e = record { numbers = λ l. sym (ap (λ t. numbers_in R ++ t) (nil (unmarked marks n) e) ∙ append-nil (numbers_in R)); below = λ m l b. b }
    where
      nil : (l : List ℕ) → length l ≡ 0 → l ≡ []
      nil [] h = refl
      nil (x ∷ l) h = absurd (omega arith)

  -- every number below n has a mark or is among them
  any-unmarked : (n i : ℕ) → i < n → get_or marks i false ≡ false → any (eqb i) (unmarked marks n) ≡ true
  unfolding any
  any-unmarked zero i l e = absurd (omega arith)
  any-unmarked (suc n) i l e = subst (λ t. any (eqb i) (unmarked marks t) ≡ true) (add-one n) (elim (dec_lt i n) [
    | yes h ↦ ap (any (eqb i)) (unmarked-next n (get_or marks n false) refl)
        ∙ any_append (eqb i) (unmarked marks n) (if not (get_or marks n false) then n ∷ [] else [])
        ∙ ap (λ b. b || any (eqb i) (if not (get_or marks n false) then n ∷ [] else [])) (any-unmarked n i h e)
    | no h ↦ (let q : i ≡ n = omega arith in
        ap (any (eqb i)) (unmarked-more n (subst (λ j. get_or marks j false ≡ false) q e))
        ∙ any_append (eqb i) (unmarked marks n) (n ∷ [])
        ∙ ap (λ b. any (eqb i) (unmarked marks n) || (b || false)) (eq-eqb i n q)
        ∙ or-true (any (eqb i) (unmarked marks n)))
  ])

  module _ (R R' : List ℕ) (n : ℕ) (t : NumberMarks R marks) (f : RecordFilled R marks n R') (room : record_len R + length (unmarked marks n) ≤ 512) where
    listed-filled : (i : ℕ) → has_number R' i ≡ (has_number R i || any (eqb i) (unmarked marks n))
    unfolding has_number
    listed-filled i = ap (any (eqb i)) (f.numbers room) ∙ any_append (eqb i) (numbers_in R) (unmarked marks n)

    pub keeps-filled : Keeps R R'
    unfolding Keeps
    keeps-filled i e = listed_by R R' (unmarked marks n) i (f.numbers room) e

    pub full-filled : n ≤ 512 → Full R' n
    unfolding Full
    full-filled l i h = listed-filled i ∙ go (has_number R i) refl
      where
        go : (b : Bool) → has_number R i ≡ b → (has_number R i || any (eqb i) (unmarked marks n)) ≡ true
        go true e = ap (λ b. b || any (eqb i) (unmarked marks n)) e
        go false e = ap₂ ◌||◌ e (any-unmarked n i h (t.tells i (omega arith) ∙ e))
