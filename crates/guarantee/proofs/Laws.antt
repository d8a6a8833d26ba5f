-- Tests, lists by place, and refusals by their numbers.
-- Assumes nothing.
use Rattle.std.specs.Prelude.{if◌then◌else◌}
use mathlib.Core.Path.{◌≡◌, refl, sym, ap, ◌∙◌}
use mathlib.Core.Logic.{◌⊎◌, inl, inr}
use mathlib.Core.Bool.{Bool, true, false}
use mathlib.Core.List.Memᴰ
use mathlib.Core.List.{List, [], ◌∷◌, ◌++◌, map, append_assoc, append-nil}
use mathlib.Core.Option.{some}
use Prim.Native.Nat.{ℕ, zero, suc, ◌+◌, ◌≤◌, ◌<◌}
use native.Mathlib.Decide.{le_ind}
use native.Mathlib.Omega.{arith}
use lib.Dec.{T}
use lib.ListN.{length, get_or, get_elem?, length-append}
use Rattle.protocol.specs.Sets.{count}
use Rattle.protocol.specs.Lists.{◌∈◌, filter}
use Rattle.protocol.specs.Controller.{Refusal, bad_setup, bad_statement, repeated, full, bad_request, many_candidates, conflict, out_of_place, unknown_notice, bad_window, bad_minute, refusal_number}
use Rattle.protocol.proofs.Found.{none≢some, some-injective, filter-out}
use Rattle.protocol.proofs.Counting.{count-mono}
use Rattle.protocol.proofs.Different.{Different}
use Rattle.protocol.proofs.Steps.{no-members}
use Rattle.guarantee.specs.Hosts.{refusal_of}

-- ---- tests

pub fails : (b : Bool) → ¬ T b → b ≡ false
fails true f = absurd (f tt)
fails false f = refl

-- what holds of both outcomes of a test
pub either : {A : Type 0} (P : A → Type 0) (b : Bool) {x y : A} → (b ≡ true → P x) → (b ≡ false → P y) → P (if b then x else y)
either P true f g = f refl
either P false f g = g refl

-- a number that no test counts
pub count_none : (n : ℕ) (p : ℕ → Bool) → ((k : ℕ) → k < n → ¬ T (p k)) → count n p ≡ 0
count_none n p f = omega (arith, count-mono n p (λ k. false) f, no-members n)

-- ---- lists

module _ {A : Type 0} where
  pub one-longer : (l : List A) (a : A) → length (l ++ (a ∷ [])) ≡ suc (length l)
  one-longer l a = omega (arith, length-append l (a ∷ []))

  pub at-seam : (l : List A) (a : A) (r : List A) → get_elem? (l ++ a ∷ r) (length l) ≡ some a
  at-seam [] a r = refl
  at-seam (x ∷ l) a r = at-seam l a r

  pub at_in : (l : List A) (i : ℕ) {a : A} → get_elem? l i ≡ some a → (a ∈ l) × (i < length l)
  at_in [] i e = absurd (none≢some e)
  at_in (x ∷ l) zero e = (Memᴰ.head (sym (some-injective e)), omega arith)
  at_in (x ∷ l) (suc i) e = let (m, h) = at_in l i e in (Memᴰ.tail m, omega arith)

  pub get_d-in : (l : List A) (n : ℕ) (d : A) → n < length l → get_or l n d ∈ l
  get_d-in [] n d h = absurd (omega arith)
  get_d-in (a ∷ l) zero d h = Memᴰ.head refl
  get_d-in (a ∷ l) (suc n) d h = Memᴰ.tail (get_d-in l n d (omega arith))

  -- in the first of two lists, or in the second
  pub at_left : (k l : List A) (i : ℕ) {a : A} → get_elem? k i ≡ some a → get_elem? (k ++ l) i ≡ some a
  at_left [] l i e = absurd (none≢some e)
  at_left (x ∷ k) l zero e = e
  at_left (x ∷ k) l (suc i) e = at_left k l i e

  pub at-cases : (k l : List A) (i : ℕ) {a : A} → get_elem? (k ++ l) i ≡ some a → (get_elem? k i ≡ some a) ⊎ ((j : ℕ) × (i ≡ length k + j) × (get_elem? l j ≡ some a))
  at-cases [] l i e = inr (i, omega arith, e)
  at-cases (x ∷ k) l zero e = inl e
  at-cases (x ∷ k) l (suc i) e = elim (at-cases k l i e) [ inl f ↦ inl f | inr (j, f, g) ↦ inr (j, omega arith, g) ]

  -- different elements stand at different places
  pub once-in : (l : List A) → Different l → (i j : ℕ) {a : A} → get_elem? l i ≡ some a → get_elem? l j ≡ some a → i ≡ j
  once-in [] d i j e f = absurd (none≢some e)
  once-in (x ∷ l) d zero zero e f = refl
  once-in (x ∷ l) (d, _) zero (suc j) e f = absurd (d _ (at_in l j f).0 (some-injective e))
  once-in (x ∷ l) (d, _) (suc i) zero e f = absurd (d _ (at_in l i e).0 (some-injective f))
  once-in (x ∷ l) (_, d) (suc i) (suc j) e f = ap suc (once-in l d i j e f)

  -- a list that grows at its end
  pub longer-on : (l : ℕ → List A) (m : ℕ) → ((j : ℕ) → m ≤ j → (D : List A) × (l (suc j) ≡ l j ++ D)) → (n : ℕ) → m ≤ n → (D : List A) × (l n ≡ l m ++ D)
  longer-on l m f n h = le_ind (λ n. (D : List A) × (l n ≡ l m ++ D)) ([], sym (append-nil (l m))) (λ j i (D, e). let (E, g) = f j i in (D ++ E, g ∙ ap (λ k. k ++ E) e ∙ append_assoc (l m) D E)) n h

  pub filter-different : (p : A → Bool) (l : List A) → Different l → Different (filter p l)
  unfolding filter
  filter-different p [] d = tt
  filter-different p (a ∷ l) (f, d) = either Different (p a) (λ e. ((λ b m. f b (filter-out p l m).0), filter-different p l d)) (λ e. filter-different p l d)

module _ {A B : Type 0} (f : A → B) where
  pub map_at : (l : List A) (i : ℕ) {a : A} → get_elem? l i ≡ some a → get_elem? (map f l) i ≡ some (f a)
  map_at [] i e = absurd (none≢some e)
  map_at (x ∷ l) zero e = ap some (ap f (some-injective e))
  map_at (x ∷ l) (suc i) e = map_at l i e

  pub at_map : (l : List A) (i : ℕ) {b : B} → get_elem? (map f l) i ≡ some b → (a : A) × (get_elem? l i ≡ some a) × (f a ≡ b)
  at_map [] i e = absurd (none≢some e)
  at_map (x ∷ l) zero e = (x, refl, some-injective e)
  at_map (x ∷ l) (suc i) e = at_map l i e

-- ---- refusals by their numbers

pub refusal-at : (r : Refusal) → refusal_of (refusal_number r) ≡ r
refusal-at bad_setup = refl
refusal-at bad_statement = refl
refusal-at repeated = refl
refusal-at full = refl
refusal-at bad_request = refl
refusal-at many_candidates = refl
refusal-at conflict = refl
refusal-at out_of_place = refl
refusal-at unknown_notice = refl
refusal-at bad_window = refl
refusal-at bad_minute = refl
