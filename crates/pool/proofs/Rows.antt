-- Laws of words that are written in a row.
-- Assumes nothing.
use mathlib.Core.Path.{◌≡◌, refl, sym, ap, ap₂, ◌∙◌}
use mathlib.Core.Logic.{◌⊎◌, inl, inr}
use mathlib.Core.List.{List, [], ◌∷◌, ◌++◌}
use Prim.Native.Nat.{ℕ, zero, suc, ◌+◌, ◌≤◌, ◌<◌}
use native.Mathlib.Numerals.{add-one}
use native.Mathlib.Omega.{arith}
use lib.ListN.{length, get_or, set, length-set}
use lib.Seq.{sets, get_or-set_same, get_or-set_other}
use Rattle.protocol.specs.Lists.{list_of}
use Rattle.protocol.proofs.Numbered.{list_of-length}

-- what was written from s on, and what was not

pub sets-outside : (vs l : List ℕ) (s i : ℕ) → (i < s) ⊎ (s + length vs ≤ i) → get_or (sets l s vs) i 0 ≡ get_or l i 0
sets-outside [] l s i o = refl
sets-outside (v ∷ vs) l s i o = sets-outside vs (set l s v) (suc s) i (far o).0 ∙ get_or-set_other l s i v 0 (far o).1
  where
    far : (i < s) ⊎ (s + suc (length vs) ≤ i) → ((i < suc s) ⊎ (suc s + length vs ≤ i)) × (i ≡ s → ⊥)
    far (inl a) = (inl (omega arith), λ e. omega arith)
    far (inr a) = (inr (omega arith), λ e. omega arith)

pub sets-inside : (vs l : List ℕ) (s p : ℕ) → p < length vs → s + length vs ≤ length l → get_or (sets l s vs) (s + p) 0 ≡ get_or vs p 0
sets-inside [] l s p m h = absurd (omega arith)
sets-inside (v ∷ vs) l s zero m h =
    let e : s + 0 ≡ s = omega arith in
    ap (λ i. get_or (sets (set l s v) (suc s) vs) i 0) e ∙ sets-outside vs (set l s v) (suc s) s (inl (omega arith)) ∙ get_or-set_same l s v 0 (omega arith)
sets-inside (v ∷ vs) l s (suc p) m h =
    let e : s + suc p ≡ suc s + p = omega arith in
    ap (λ i. get_or (sets (set l s v) (suc s) vs) i 0) e ∙ sets-inside vs (set l s v) (suc s) p (omega arith) (omega (arith, length-set l s v))

-- one word more

sets_more : (vs l : List ℕ) (s v : ℕ) → set (sets l s vs) (s + length vs) v ≡ sets l s (vs ++ (v ∷ []))
sets_more [] l s v = let e : s + 0 ≡ s = omega arith in ap (λ i. set l i v) e
sets_more (x ∷ vs) l s v = let e : s + suc (length vs) ≡ suc s + length vs = omega arith in ap (λ i. set (sets (set l s x) (suc s) vs) i v) e ∙ sets_more vs (set l s x) (suc s) v

-- and two

pub sets-two : (vs l : List ℕ) (s v w : ℕ) → set (set (sets l s vs) (s + length vs) v) (s + length vs + 1) w ≡ sets l s (vs ++ (v ∷ w ∷ []))
sets-two [] l s v w =
    let d : s + 0 ≡ s = omega arith in
    let e : s + 0 + 1 ≡ suc s = omega arith in
    ap₂ (λ i j. set (set l i v) j w) d e
sets-two (x ∷ vs) l s v w =
    let d : s + suc (length vs) ≡ suc s + length vs = omega arith in
    let e : s + suc (length vs) + 1 ≡ suc s + length vs + 1 = omega arith in
    ap₂ (λ i j. set (set (sets (set l s x) (suc s) vs) i v) j w) d e ∙ sets-two vs (set l s x) (suc s) v w

module _ (l : List ℕ) (s : ℕ) (f : ℕ → ℕ) where
  pub none_written : l ≡ sets l s (list_of 0 f)
  unfolding list_of
  none_written = refl

  pub one_written : (out : List ℕ) (i v : ℕ) → out ≡ sets l s (list_of i f) → v ≡ f i → set out (s + i) v ≡ sets l s (list_of (i + 1) f)
  unfolding list_of
  one_written out i v e q = rw (e, q, add-one) (ap (λ k. set (sets l s (list_of i f)) (s + k) (f i)) (sym (list_of-length i f)) ∙ sets_more (list_of i f) l s (f i))
