-- Laws of lists by index: each is what one step of a loop needs.
-- Assumes nothing.
use mathlib.Core.Path.{◌≡◌, refl, sym, ap, ap₂, ◌∙◌}
use mathlib.Core.Bool.{Bool, true, false, ◌&&◌, ◌||◌, and-true, and-false, or-true, or-false, and_assoc, or_assoc}
use mathlib.Core.List.{List, [], ◌∷◌, ◌++◌, map, map-append}
use Prim.Native.Nat.{ℕ, zero, suc, ◌+◌, ◌≤◌, ◌<◌}
use native.Mathlib.Decide.{dec_lt}
use native.Mathlib.Numerals.{add-one}
use native.Mathlib.Omega.{arith}
use lib.ListN.{length, get_or, take}
use lib.Seq.{take_all, take-append-le}
use Rattle.protocol.specs.Lists.{any, all, list_of}
use Rattle.protocol.proofs.Numbered.{list_of-length, list_of-at}
use Rattle.views.specs.View.{view_of, views_of}

module _ {A : Type 0} where
  pub any_append : (p : A → Bool) (k l : List A) → any p (k ++ l) ≡ (any p k || any p l)
  unfolding any
  any_append p [] l = refl
  any_append p (a ∷ k) l = ap (λ b. p a || b) (any_append p k l) ∙ sym (or_assoc (p a) (any p k) (any p l))

  pub all_append : (p : A → Bool) (k l : List A) → all p (k ++ l) ≡ (all p k && all p l)
  unfolding all
  all_append p [] l = refl
  all_append p (a ∷ k) l = ap (λ b. p a && b) (all_append p k l) ∙ sym (and_assoc (p a) (all p k) (all p l))

  module _ (p : A → Bool) (f : ℕ → A) where
    -- one element more

    pub any-suc : (n : ℕ) → any p (list_of (suc n) f) ≡ (any p (list_of n f) || p (f n))
    unfolding list_of any
    any-suc n = any_append p (list_of n f) (f n ∷ []) ∙ ap (λ x. any p (list_of n f) || x) (or-false (p (f n)))

    pub all-suc : (n : ℕ) → all p (list_of (suc n) f) ≡ (all p (list_of n f) && p (f n))
    unfolding list_of all
    all-suc n = all_append p (list_of n f) (f n ∷ []) ∙ ap (λ x. all p (list_of n f) && x) (and-true (p (f n)))

    pub any-zero : any p (list_of 0 f) ≡ false
    unfolding list_of any
    any-zero = refl

    pub all-zero : all p (list_of 0 f) ≡ true
    unfolding list_of all
    all-zero = refl

    pub any-more : (n : ℕ) → any p (list_of n f) ≡ false → p (f n) ≡ false → any p (list_of (n + 1) f) ≡ false
    any-more n e g = rw add-one (any-suc n ∙ ap₂ ◌||◌ e g)

    pub all_more : (n : ℕ) → all p (list_of n f) ≡ true → p (f n) ≡ true → all p (list_of (n + 1) f) ≡ true
    all_more n e g = rw add-one (all-suc n ∙ ap₂ ◌&&◌ e g)

    pub any_at : (n : ℕ) {i : ℕ} → i < n → p (f i) ≡ true → any p (list_of n f) ≡ true
    any_at zero l e = absurd (omega arith)
    any_at (suc n) {i} l e = any-suc n ∙ elim (dec_lt i n) [
      | yes m ↦ ap (λ x. x || p (f n)) (any_at n m e)
      | no m ↦ (let q : n ≡ i = omega arith in ap (λ x. any p (list_of n f) || p (f x)) q ∙ ap (λ x. any p (list_of n f) || x) e ∙ or-true (any p (list_of n f)))
    ]

    pub all-miss : (n : ℕ) {i : ℕ} → i < n → p (f i) ≡ false → all p (list_of n f) ≡ false
    all-miss zero l e = absurd (omega arith)
    all-miss (suc n) {i} l e = all-suc n ∙ elim (dec_lt i n) [
      | yes m ↦ ap (λ x. x && p (f n)) (all-miss n m e)
      | no m ↦ (let q : n ≡ i = omega arith in ap (λ x. all p (list_of n f) && p (f x)) q ∙ ap (λ x. all p (list_of n f) && x) e ∙ and-false (all p (list_of n f)))
    ]

  pub list_of-more : (n : ℕ) (f g : ℕ → A) → list_of n f ≡ list_of n g → f n ≡ g n → list_of (n + 1) f ≡ list_of (n + 1) g
  unfolding list_of
  list_of-more n f g e h = rw add-one (ap₂ (λ l a. l ++ (a ∷ [])) e h)

  pub list_of-same-at : (n : ℕ) (f g : ℕ → A) (p : ℕ) → p < n → list_of n f ≡ list_of n g → f p ≡ g p
  list_of-same-at n f g p l e = sym (list_of-at n f p (f p) l) ∙ ap (λ t. get_or t p (f p)) e ∙ list_of-at n g p (f p) l

  pub list_of-none : (f g : ℕ → A) → list_of 0 f ≡ list_of 0 g
  unfolding list_of
  list_of-none f g = refl

  pub take-list_of : (n m : ℕ) (f : ℕ → A) → m ≤ n → take m (list_of n f) ≡ list_of m f
  unfolding list_of
  take-list_of zero zero f l = refl
  take-list_of zero (suc m) f l = absurd (omega arith)
  take-list_of (suc n) m f l = elim (dec_lt n m) [
    | yes h ↦ (let e : m ≡ suc n = omega arith in rw e (take_all (suc n) (list_of (suc n) f) (omega (arith, list_of-length (suc n) f))))
    | no h ↦ take-append-le m (list_of n f) (f n ∷ []) (omega (arith, list_of-length n f)) ∙ take-list_of n m f (omega arith)
  ]

pub map-list_of : {A B : Type 0} (g : A → B) (n : ℕ) (f : ℕ → A) → map g (list_of n f) ≡ list_of n (λ i. g (f i))
unfolding list_of
map-list_of g zero f = refl
map-list_of g (suc n) f = map-append g (list_of n f) (f n ∷ []) ∙ ap (λ l. l ++ (g (f n) ∷ [])) (map-list_of g n f)

pub views-count : (ws : List ℕ) (n : ℕ) → length (views_of ws n) ≡ n
unfolding views_of
views-count ws n = list_of-length n (λ i. view_of (get_or ws i 0))
