-- Lists by their members.
-- Assumes nothing.
use mathlib.Core.Path.{◌≡◌, refl, sym, ap, ap₂, ◌∙◌}
use mathlib.Core.Logic.{◌⊎◌, inl, inr}
use mathlib.Core.List.Memᴰ
use mathlib.Core.List.{List, [], ◌∷◌, ◌++◌}
use Prim.Native.Nat.{ℕ, zero, suc, ◌<◌}
use native.Mathlib.Decide.{dec_lt}
use native.Mathlib.Omega.{arith}
use Rattle.protocol.specs.Lists.{◌∈◌, ◌⊆◌, list_of}
use Rattle.protocol.proofs.Different.{Ordered}

module _ {A : Type 0} where
  pub in_left : {a : A} (k l : List A) → a ∈ k → a ∈ k ++ l
  in_left (b ∷ k) l (Memᴰ.head e) = Memᴰ.head e
  in_left (b ∷ k) l (Memᴰ.tail m) = Memᴰ.tail (in_left k l m)
  in_left {a = a} [] l x' = elim x' [ ]

  pub in_right : {a : A} (k l : List A) → a ∈ l → a ∈ k ++ l
  in_right [] l m = m
  in_right (b ∷ k) l m = Memᴰ.tail (in_right k l m)

  pub in-last : (k : List A) (a : A) → a ∈ k ++ (a ∷ [])
  in-last k a = in_right k (a ∷ []) (Memᴰ.head refl)

  -- an element of a list by index

  pub list_of-in : (n : ℕ) (f : ℕ → A) (i : ℕ) → i < n → f i ∈ list_of n f
  unfolding list_of
  list_of-in zero f i l = absurd (omega arith)
  list_of-in (suc n) f i l = elim (dec_lt i n) [ yes m ↦ in_left (list_of n f) (f n ∷ []) (list_of-in n f i m) | no m ↦ (let e : i ≡ n = omega arith in Memᴰ.cast (ap f e) (in-last (list_of n f) (f n))) ]

  -- two lists that rise and have the same members are the same

  module _ (f : A → ℕ) where
    abbrev pub Climbs : List A → Type 0
    Climbs l = Ordered (λ a b. f a < f b) l

    -- what comes later is greater
    pub climbs-apart : {a b : A} (k l : List A) → Climbs (k ++ l) → a ∈ k → b ∈ l → f a < f b
    climbs-apart (c ∷ k) l p (Memᴰ.head e) j = omega (arith, p.0 _ (in_right k l j), ap f e)
    climbs-apart (c ∷ k) l p (Memᴰ.tail i) j = climbs-apart k l p.1 i j
    climbs-apart {a = a} {b = b} [] l p x3 j = elim x3 [ ]

    heads : (a b : A) (k l : List A) → Climbs (a ∷ k) → Climbs (b ∷ l) → a ∈ b ∷ l → b ∈ a ∷ k → a ≡ b
    heads a b k l p q (Memᴰ.head e) j = e
    heads a b k l p q (Memᴰ.tail i) (Memᴰ.head e) = sym e
    heads a b k l p q (Memᴰ.tail i) (Memᴰ.tail j) = absurd (omega (arith, p.0 b j, q.0 a i))

    tails : (a b : A) (k l : List A) → a ≡ b → Climbs (a ∷ k) → a ∷ k ⊆ b ∷ l → k ⊆ l
    tails a b k l e p s x m = go (Memᴰ.cases_cons (s x (Memᴰ.tail m)))
      where
        go : (x ≡ b) ⊎ (x ∈ l) → x ∈ l
        go (inl h) = absurd (omega (arith, p.0 x m, ap f (e ∙ sym h)))
        go (inr i) = i

    pub same-members : (k l : List A) → Climbs k → Climbs l → k ⊆ l → l ⊆ k → k ≡ l
    same-members [] [] p q s t = refl
    same-members [] (b ∷ l) p q s t = absurd (Memᴰ.not-nil (t b (Memᴰ.head refl)))
    same-members (a ∷ k) [] p q s t = absurd (Memᴰ.not-nil (s a (Memᴰ.head refl)))
    same-members (a ∷ k) (b ∷ l) p q s t =
        let e = heads a b k l p q (s a (Memᴰ.head refl)) (t b (Memᴰ.head refl)) in
        ap₂ ◌∷◌ e (same-members k l p.1 q.1 (tails a b k l e p s) (tails b a l k (sym e) q t))
