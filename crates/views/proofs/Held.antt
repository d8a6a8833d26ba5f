-- Laws of the structs View and History: each is what one method needs.
-- Assumes nothing.
use mathlib.Core.Path.{◌≡◌, sym, ap, ap₂, ◌∙◌}
use mathlib.Core.Bool.{Bool, not, ◌&&◌}
use mathlib.Core.List.{List, [], ◌∷◌, ◌++◌}
use Prim.Native.Nat.{ℕ, suc, ◌+◌, ◌-◌, ◌/◌, ◌%◌, ◌<◌, min}
use native.Mathlib.Decide.{dec_lt}
use native.Mathlib.Numerals.{add-one}
use native.Mathlib.Omega.{arith}
use lib.Dec.{eqb}
use lib.Bits.{bit_and}
use lib.ListN.{length, set}
use lib.Seq.{get_or-set_same, get_or-set_other}
use borrow.Author.Tests.{lt-ltb, le-ltb}
use Rattle.protocol.specs.Sets.{bit, set_of}
use Rattle.protocol.specs.Lists.{list_of}
use Rattle.protocol.specs.View.{View, member, is_view}
use Rattle.protocol.specs.Turn.{entered_after}
use Rattle.protocol.proofs.Bits.{bit-set_of, subset-and, Fits}
use Rattle.protocol.proofs.Numbered.{list_of-length, list_of-cong}
use Rattle.views.specs.declared.View as held
use Rattle.views.specs.declared.History.{History}
use Rattle.views.specs.View.{view_of, view_in}
use Rattle.views.specs.Held.{view_is, held_at, views_is}
use Rattle.views.proofs.Sets.{bit-far, set_of-lt, set-without}
use Rattle.views.proofs.Tables.{take-list_of}
use Rattle.views.proofs.Views.{pair}

-- ---- one view

pub word-is : (v : held.View) (w h : ℕ) → (h % 4294967296 ≡ v.joined) × (h / 4294967296 % 4294967296 ≡ v.left) → view_of w ≡ view_in h → view_of w ≡ view_is v
unfolding view_in
word-is v w h p e = e ∙ (λ i. record { joined = (let q : h % 65536 ≡ v.joined % 65536 = omega arith in q) i; left = (let q : h / 4294967296 % 65536 ≡ v.left % 65536 = omega arith in q) i })

pub of-word-is : (w j l : ℕ) → j ≡ w % 4294967296 → l ≡ w / 4294967296 % 4294967296 → pair (j % 65536) (l % 65536) ≡ view_in w
unfolding view_in
of-word-is w j l e f i = record { joined = (let q : j % 65536 ≡ w % 65536 = omega arith in q) i; left = (let q : l % 65536 ≡ w / 4294967296 % 65536 = omega arith in q) i }

-- every struct means a view of the sixteen controllers
pub held_fits : (v : held.View) → Fits 16 (view_is v)
held_fits v = record { joined = omega arith; left = omega arith }

pub members-are : (v : View) (a b : ℕ) → a ≡ v.joined → a < 65536 → b ≡ v.left → a - bit_and a b ≡ set_of 16 (member v)
members-are v a b e p f = set-without 16 a b p ∙ ap₂ (λ x y. set_of 16 (λ k. bit x k && not (bit y k))) e f

pub member-bit : (v : View) (r k : ℕ) {b : Bool} → r ≡ set_of 16 (member v) → b ≡ bit r k → v.joined < 65536 → b ≡ member v k
member-bit v r k {b} e q l = q ∙ ap (λ x. bit x k) e ∙ (elim (dec_lt k 16) [
  | yes m ↦ bit-set_of 16 (member v) k m
  | no m ↦ bit-far 16 (set_of 16 (member v)) k (set_of-lt 16 (member v)) (omega arith) ∙ sym (ap (λ x. x && not (bit v.left k)) (bit-far 16 v.joined k l (omega arith)))
])

pub view-test : (v : View) (a b : ℕ) → a ≡ v.joined → a < 65536 → b ≡ v.left → b < 65536 → eqb (bit_and b a) b ≡ is_view 16 v
unfolding is_view
view-test v a b e p f q = rw (sym e, sym f, lt-ltb a 65536 p, lt-ltb b 65536 q) (subset-and 16 b a q p)

-- a test of words is the test of their views

pub of_words : (p : View → View → Bool) (a b : ℕ) {u v : View} {r : Bool} → r ≡ p (view_of a) (view_of b) → view_of a ≡ u → view_of b ≡ v → r ≡ p u v
of_words p a b e f g = e ∙ ap₂ p f g

-- ---- a list of views

-- a fact of the first n views of an array, where the history has n, is one of the history

pub views-of : (h : History) (n : ℕ) → n ≡ min h.len 16 → list_of n (held_at h.views) ≡ views_is h
unfolding views_is
views-of h n e = ap (λ k. list_of k (held_at h.views)) e

module _ {A : Type 0} (g : List View → A) (h : History) where
  pub of-history : (n : ℕ) {r : A} → n ≡ min h.len 16 → r ≡ g (list_of n (held_at h.views)) → r ≡ g (views_is h)
  of-history n e q = q ∙ ap g (views-of h n e)

pub none-held : (h : History) → h.len ≡ 0 → views_is h ≡ []
unfolding views_is list_of
none-held h e = let q : min h.len 16 ≡ 0 = omega arith in rw q

-- v at place n of an array, after the first n

set_view : (l : List held.View) (n : ℕ) (v : held.View) → n < length l → list_of (suc n) (held_at (set l n v)) ≡ list_of n (held_at l) ++ (view_is v ∷ [])
unfolding list_of
set_view l n v h =
    ap₂ (λ k u. k ++ (u ∷ [])) (list_of-cong n (held_at (set l n v)) (held_at l) (λ i m. ap view_is (get_or-set_other l n i v _ (λ e. omega arith)))) (ap view_is (get_or-set_same l n v _ h))

-- an array that is filled place by place
pub held_more : (l : List held.View) (n : ℕ) (v : held.View) (f : ℕ → View) → n < length l → list_of n (held_at l) ≡ list_of n f → view_is v ≡ f n → list_of (n + 1) (held_at (set l n v)) ≡ list_of (n + 1) f
unfolding list_of
held_more l n v f h e q = rw add-one (set_view l n v h ∙ ap₂ (λ k u. k ++ (u ∷ [])) e q)

pub cut-is : (l : List held.View) (n : ℕ) (v : held.View) (h : History) → length l ≡ 16 → n < 16 → h.views ≡ set l n v → h.len ≡ n + 1 → views_is h ≡ list_of n (held_at l) ++ (view_is v ∷ [])
cut-is l n v h a b p q = sym (views-of h (suc n) (omega arith)) ∙ ap (λ k. list_of (suc n) (held_at k)) p ∙ set_view l n v (omega arith)

push-room : (h : History) (n : ℕ) (v : View) → n ≡ min h.len 16 → n < 16 → list_of n (held_at h.views) ++ (v ∷ []) ≡ entered_after v (views_is h)
unfolding entered_after
push-room h n v e l = of-history (entered_after v) h n e (sym (rw (lt-ltb (length (list_of n (held_at h.views))) 16 (rw (list_of-length n (held_at h.views)) l))))

push-full : (h : History) (n : ℕ) (v : View) → n ≡ min h.len 16 → (n < 16 → ⊥) → list_of 15 (held_at h.views) ++ (v ∷ []) ≡ entered_after v (views_is h)
unfolding entered_after
push-full h n v e l =
    of-history (entered_after v) h n e
    (sym (rw (le-ltb (length (list_of n (held_at h.views))) 16 (omega (arith, list_of-length n (held_at h.views))), take-list_of n 15 (held_at h.views) (omega arith))))

-- v goes after the views that count, but in place of the last where there are 16
pub push-last : (h : History) (n at : ℕ) (v : View) → n ≡ min h.len 16 → at ≡ min n 15 → list_of at (held_at h.views) ++ (v ∷ []) ≡ entered_after v (views_is h)
push-last h n at v e q = elim (dec_lt n 16) [
  | yes l ↦ (let z : at ≡ n = omega arith in ap (λ k. list_of k (held_at h.views) ++ (v ∷ [])) z) ∙ push-room h n v e l
  | no l ↦ (let z : at ≡ 15 = omega arith in ap (λ k. list_of k (held_at h.views) ++ (v ∷ [])) z) ∙ push-full h n v e l
]
