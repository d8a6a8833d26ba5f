-- What is by number: `list_of`, `least` and `put`.
-- Assumes nothing.
use Rattle.std.specs.Prelude.{if◌then◌else◌}
use mathlib.Core.Path.{◌≡◌, refl, sym, ap, ap₂, ◌∙◌}
use mathlib.Core.Logic.{◌⊎◌, inl, inr}
use mathlib.Core.Bool.{Bool, true, false, ◌||◌}
use mathlib.Core.List.Memᴰ
use mathlib.Core.List.{List, [], ◌∷◌, ◌++◌}
use mathlib.Core.Option.{Option, some, none}
use Prim.Native.Nat.{ℕ, zero, suc, ◌+◌, ◌^◌, ◌≤◌, ◌<◌}
use native.Mathlib.Decide.{dec_lt}
use native.Mathlib.Numerals.{add-one}
use native.Mathlib.Omega.{arith}
use lib.Dec.{T, eqb, eqb-zero-suc, eqb-suc-zero, eqb-suc-suc, eqb_refl}
use lib.Bits.{bit_or}
use lib.ListN.{length, get_or, set, length-append, get_or-append}
use lib.Seq.{get_or_at}
use Rattle.protocol.specs.Sets.{bit}
use Rattle.protocol.specs.Lists.{◌∈◌, first_some, list_of, least, put}
use Rattle.protocol.proofs.Says.{says_map, says-unique, says-eqb}
use Rattle.protocol.proofs.Bits.{bit-or, bit-pow}
use Rattle.protocol.proofs.Found.{none≢some, first_some-cons, first_some-nil}

module _ {A : Type 0} where
  -- ---- list_of

  pub list_of-length : (n : ℕ) (f : ℕ → A) → length (list_of n f) ≡ n
  unfolding list_of
  list_of-length zero f = refl
  list_of-length (suc n) f = omega (arith, length-append (list_of n f) (f n ∷ []), list_of-length n f)

  pub list_of-at : (n : ℕ) (f : ℕ → A) (i : ℕ) (d : A) → i < n → get_or (list_of n f) i d ≡ f i
  unfolding list_of
  list_of-at zero f i d l = absurd (omega arith)
  list_of-at (suc n) f i d l = elim (dec_lt i n) [
    | yes m ↦ get_or-append (list_of n f) (f n ∷ []) d i (rw (list_of-length n f) m) ∙ list_of-at n f i d m
    | no m ↦ (let q : n ≡ i = omega arith in get_or_at (list_of n f) (f n) [] d i (list_of-length n f ∙ q) ∙ ap f q)
  ]

  pub list_of-out : (n : ℕ) (f : ℕ → A) {a : A} → a ∈ list_of n f → (i : ℕ) × (i < n) × (a ≡ f i)
  unfolding list_of
  list_of-out zero f m = absurd (Memᴰ.not-nil m)
  list_of-out (suc n) f m = elim (Memᴰ.append_cases (list_of n f) m) [
    | inl j ↦ let (i, l, e) = list_of-out n f j in (i, omega arith, e)
    | inr j ↦ (n, omega arith, Memᴰ.eq_of_singleton j)
  ]

  pub list_of-cong : (n : ℕ) (f g : ℕ → A) → ((i : ℕ) → i < n → f i ≡ g i) → list_of n f ≡ list_of n g
  unfolding list_of
  list_of-cong zero f g h = refl
  list_of-cong (suc n) f g h = ap₂ (λ l a. l ++ (a ∷ [])) (list_of-cong n f g (λ i l. h i (omega arith))) (h n (omega arith))

  -- ---- least

  -- it comes from a number below which there is none
  pub least-some : (n : ℕ) (f : ℕ → Option A) {a : A} → least n f ≡ some a → (i : ℕ) × (i < n) × (f i ≡ some a) × (least i f ≡ none)
  unfolding least
  least-some zero f e = absurd (none≢some e)
  least-some (suc n) f e = elim (first_some-cons (least n f) (f n ∷ []) e) [
    | inl h ↦ let (i, l, g, z) = least-some n f h in (i, omega arith, g, z)
    | inr h ↦ elim (first_some-cons (f n) [] h.1) [ inl g ↦ (n, omega arith, g, h.0) | inr g ↦ absurd (first_some-nil g.1) ]
  ]

  -- for a program that asks one number after the other: none so far, and the first that has a value

  pub least_start : (f : ℕ → Option A) → least 0 f ≡ none
  unfolding least
  least_start f = refl

  pub least_more : (n : ℕ) (f : ℕ → Option A) → least n f ≡ none → f n ≡ none → least (n + 1) f ≡ none
  unfolding least first_some
  least_more n f e g = rw (add-one, e, g)

  pub least_first : (n : ℕ) (f : ℕ → Option A) (i : ℕ) {a : A} → i < n → least i f ≡ none → f i ≡ some a → least n f ≡ some a
  unfolding least first_some
  least_first zero f i l h e = absurd (omega arith)
  least_first (suc n) f i l h e = elim (dec_lt i n) [
    | yes m ↦ rw (least_first n f i m h e)
    | no m ↦ let q : i ≡ n = omega arith in rw (ap (λ i. least i f) (sym q) ∙ h, ap f (sym q) ∙ e)
  ]

  -- ---- put

  pub put-at : (n : ℕ) (a : A) (f : ℕ → A) → put n a f n ≡ a
  unfolding put
  put-at n a f = go (eqb n n) (eqb_refl n)
    where
      go : (b : Bool) → T b → (if b then a else f n) ≡ a
      go true t = refl
      go false t = elim t [ ]

  -- at each number it is the new value, or what it was
  pub put_is : (n : ℕ) (a : A) (f : ℕ → A) (i : ℕ) → ((i ≡ n) × (put n a f i ≡ a)) ⊎ (put n a f i ≡ f i)
  unfolding put
  put_is n a f i = go (eqb i n) refl
    where
      go : (b : Bool) → eqb i n ≡ b → ((i ≡ n) × ((if b then a else f i) ≡ a)) ⊎ ((if b then a else f i) ≡ f i)
      go true e = inl (says-eqb.sound (rw e tt), refl)
      go false e = inr refl

-- ---- by what a program stores

-- the numbers below n, which a loop went through, and those from n on, which it left
pub from_parts : {A : Type 0} (n : ℕ) (f g : ℕ → A) → ((i : ℕ) → i < n → f i ≡ g i) → ((i : ℕ) → n ≤ i → f i ≡ g i) → f ≡ g
from_parts n f g low high j i = at j
  where
    at : f i ≡ g i
    at = elim (dec_lt i n) [ yes l ↦ low i l | no l ↦ high i (omega arith) ]

-- an element of an array that is read by f
pub set-put : {A B : Type 0} (f : A → B) (l : List A) (n : ℕ) (a d : A) → n < length l → (λ i. f (get_or (set l n a) i d)) ≡ put n (f a) (λ i. f (get_or l i d))
unfolding put
set-put {A} f l n a d h j i = at l n i h j
  where
    at : (l : List A) (n i : ℕ) → n < length l → f (get_or (set l n a) i d) ≡ (if eqb i n then f a else f (get_or l i d))
    at [] n i h = absurd (omega arith)
    at (x ∷ l) zero zero h = refl
    at (x ∷ l) zero (suc i) h = rw (eqb-suc-zero i)
    at (x ∷ l) (suc n) zero h = rw (eqb-zero-suc n)
    at (x ∷ l) (suc n) (suc i) h = rw (eqb-suc-suc i n) (at l n i (omega arith))

-- a bit of a set
pub or_put : (a n : ℕ) → (λ i. bit (bit_or a (2 ^ n)) i) ≡ put n true (bit a)
unfolding put
or_put a n j i = at j
  where
    either : (b c d : Bool) → c ≡ d → (b || c) ≡ (if d then true else b)
    either true true d e = rw (← e)
    either true false d e = rw (← e)
    either false true d e = rw (← e)
    either false false d e = rw (← e)

    at : bit (bit_or a (2 ^ n)) i ≡ (if eqb i n then true else bit a i)
    at = bit-or i a (2 ^ n) ∙ ap (λ b. bit a i || b) (bit-pow i n) ∙ either (bit a i) (eqb n i) (eqb i n) (says-unique (says-eqb {m = n} {n = i}) (says_map sym sym (says-eqb {m = i} {n = n})))
