-- What a chain of iterators says of a list: the library's tests of a list's first elements, as the protocol's of what is listed by number.
-- Assumes nothing.
use Rattle.std.specs.Prelude.{Option, Some}
use Rattle.std.specs.List.{list_any, list_all, range_with_len, find as first_of}
use mathlib.Core.Option as protocol
use Rattle.views.specs.Options.{option_of}
use mathlib.Core.Path.{◌≡◌, refl, sym, ap, ◌∙◌}
use mathlib.Core.Bool.{Bool, true, false, cond, ◌&&◌, ◌||◌}
use mathlib.Core.List.{List, [], ◌∷◌, ◌++◌, map, map-append}
use Prim.Native.Nat.{ℕ, zero, suc, ◌+◌, ◌≤◌}
use native.Mathlib.Omega.{arith}
use lib.ListN.{length, get_or, take, drop, length-drop}
use lib.Seq.{take-suc, take_all, length-take-le}
use Rattle.std.proofs.lemmas.List.{get_or-take, get_or-drop}
use Rattle.std.proofs.lemmas.List.FromFn.{length-range_with_len, get_or-range_with_len}
use Rattle.protocol.proofs.Numbered.{list_of-cong}
use Rattle.protocol.specs.Lists.{any, all, find, list_of}

-- it does not matter which of two is asked about the other
pub any-flip : {A : Type 0} (same : A → A → Bool) → ((a b : A) → same a b ≡ same b a) → (v : A) (l : List A) → any (λ a. same a v) l ≡ any (same v) l
any-flip same flip v l = ap (λ q. any q l) (λ i a. flip a v i)

-- the library's first of a list that has p is the protocol's

first-or : {A : Type 0} (x : A) (b : Bool) {o : Option A} (q : protocol.Option A) → o ≡ option_of q → cond b (Some x) o ≡ option_of (cond b (protocol.some x) q)
first-or x true q e = refl
first-or x false q e = e

pub find-is : {A : Type 0} (p : A → Bool) (l : List A) → first_of p l ≡ option_of (find p l)
unfolding find
find-is p [] = refl
find-is p (x ∷ l) = first-or x (p x) (find p l) (find-is p l)

module _ {X A : Type 0} where
  -- the library's tests are the protocol's

  pub any-is : (p : A → Bool) (g : X → A) (l : List X) → list_any (λ x. p (g x)) l ≡ any p (map g l)
  unfolding any
  any-is p g [] = refl
  any-is p g (x ∷ l) = ap (λ b. p (g x) || b) (any-is p g l)

  pub all-is : (p : A → Bool) (g : X → A) (l : List X) → list_all (λ x. p (g x)) l ≡ all p (map g l)
  unfolding all
  all-is p g [] = refl
  all-is p g (x ∷ l) = ap (λ b. p (g x) && b) (all-is p g l)

  -- the first n of a list, by number
  pub map-take : (g : X → A) (n : ℕ) (l : List X) (d : X) → n ≤ length l → map g (take n l) ≡ list_of n (λ i. g (get_or l i d))
  unfolding list_of
  map-take g zero l d h = refl
  map-take g (suc n) l d h =
      ap (map g) (take-suc l n d (omega arith)) ∙ map-append g (take n l) (get_or l n d ∷ []) ∙ ap (λ k. k ++ (g (get_or l n d) ∷ [])) (map-take g n l d (omega arith))

  -- a whole list
  pub map-all : (g : X → A) (l : List X) (d : X) → map g l ≡ list_of (length l) (λ i. g (get_or l i d))
  map-all g l d = ap (map g) (sym (take_all (length l) l (omega arith))) ∙ map-take g (length l) l d (omega arith)

  pub any-take : (p : A → Bool) (g : X → A) (n : ℕ) (l : List X) (d : X) → n ≤ length l → list_any (λ x. p (g x)) (take n l) ≡ any p (list_of n (λ i. g (get_or l i d)))
  any-take p g n l d h = any-is p g (take n l) ∙ ap (any p) (map-take g n l d h)

  pub all-take : (p : A → Bool) (g : X → A) (n : ℕ) (l : List X) (d : X) → n ≤ length l → list_all (λ x. p (g x)) (take n l) ≡ all p (list_of n (λ i. g (get_or l i d)))
  all-take p g n l d h = all-is p g (take n l) ∙ ap (all p) (map-take g n l d h)

  -- a slice of the first n, by number
  pub list_of-take : (g : X → A) (n : ℕ) (k l : List X) (d : X) → k ≡ take n l → n ≤ length l → list_of (length k) (λ i. g (get_or k i d)) ≡ list_of n (λ i. g (get_or l i d))
  list_of-take g n k l d e h =
      let z : length k ≡ n = ap length e ∙ length-take-le n l h in
      ap (λ m. list_of m (λ i. g (get_or k i d))) z ∙ list_of-cong n (λ i. g (get_or k i d)) (λ i. g (get_or l i d)) (λ i m. ap g (ap (λ t. get_or t i d) e ∙ get_or-take n l i d m))

  -- a slice from s on, by number
  pub map-slice : (g : X → A) (n s : ℕ) (l : List X) (d : X) → s + n ≤ length l → map g (take n (drop s l)) ≡ list_of n (λ i. g (get_or l (s + i) d))
  map-slice g n s l d h =
      map-take g n (drop s l) d (omega (arith, length-drop s l)) ∙ list_of-cong n (λ i. g (get_or (drop s l) i d)) (λ i. g (get_or l (s + i) d)) (λ i m. ap g (get_or-drop s l i d))

  -- `contains` asks each element about v, the protocol v about each
  pub contains-take : (same : A → A → Bool) → ((a b : A) → same a b ≡ same b a) → (v : A) (g : X → A) (n : ℕ) (l : List X) (d : X) → n ≤ length l
      → list_any (λ x. same (g x) v) (take n l) ≡ any (same v) (list_of n (λ i. g (get_or l i d)))
  contains-take same flip v g n l d h = any-take (λ a. same a v) g n l d h ∙ any-flip same flip v (list_of n (λ i. g (get_or l i d)))

-- a range, by number
pub map-range : {A : Type 0} (f : ℕ → A) (a n : ℕ) → map f (range_with_len a n) ≡ list_of n (λ i. f (a + i))
map-range f a n =
    ap (map f) (sym (take_all n (range_with_len a n) (omega (arith, length-range_with_len a n)))) ∙ map-take f n (range_with_len a n) 0 (omega (arith, length-range_with_len a n))
    ∙ list_of-cong n (λ i. f (get_or (range_with_len a n) i 0)) (λ i. f (a + i)) (λ i m. ap f (get_or-range_with_len a n i 0 m))

pub map-below : {A : Type 0} (f : ℕ → A) (n : ℕ) → map f (range_with_len 0 n) ≡ list_of n f
map-below f n = map-range f 0 n ∙ list_of-cong n (λ i. f (0 + i)) f (λ i m. let e : 0 + i ≡ i = omega arith in ap f e)
