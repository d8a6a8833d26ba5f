-- Laws of the wished view: it is put together from the sets of those who join and leave.
-- Assumes nothing.
use mathlib.Core.Path.{◌≡◌, sym, ap, ap₂, subst, ◌∙◌}
use mathlib.Core.Bool.{◌&&◌, ◌||◌}
use mathlib.Core.List.{List}
use Prim.Native.Nat.{ℕ, ◌%◌, ◌<◌}
use native.Mathlib.Omega.{arith}
use lib.Dec.{eqb}
use lib.Bits.{bit_and, and_lt}
use borrow.Author.Tests.{ne_eqb}
use Rattle.protocol.specs.Sets.{bit}
use Rattle.protocol.specs.View.{View}
use Rattle.protocol.specs.Statement.{Stmt, is_kind}
use Rattle.protocol.specs.Evidence.{signs, joined_by, left_by, wished}
use Rattle.protocol.proofs.Bits.{bit-and, bit-or}
use Rattle.views.specs.Steps.{Noted, Joined}
use Rattle.views.specs.Sets.{IsSet}
use Rattle.views.specs.View.{view_of, view_in, ring_of_word}
use Rattle.views.proofs.Sets.{set_is, note-none, bit-low}
use Rattle.views.proofs.Views.{pair, view_in_lem}

module _ (init : ℕ) (X : List Stmt) where
  -- what the two sets of signers a and b make of the initial view v, whose sets are p and q
  pub record Wish (v : View) (a b p q j l : ℕ) : Type 0 where
    pub view : v ≡ view_in init
    pub joins : IsSet a (signs (is_kind 1) X)
    pub leaves : IsSet b (signs (is_kind 2) X)
    pub first : (p ≡ v.joined) × (p < 65536)
    pub second : (q ≡ v.left) × (q < 65536)
    pub joined : Joined p a j
    pub left : Joined q (bit_and j b) l

  module _ {v : View} {a b p q j l : ℕ} (w : Wish v a b p q j l) where
    -- the sets of the initial view, at the controllers

    first_bit : (k : ℕ) → k < 16 → bit p k ≡ bit (view_of init).joined k
    first_bit k h = ap (λ x. bit x k) (w.first.0 ∙ ap (λ u. u.joined) (w.view ∙ view_in_lem init)) ∙ bit-low (view_of init).joined k h

    second-bit : (k : ℕ) → k < 16 → bit q k ≡ bit (view_of init).left k
    second-bit k h = ap (λ x. bit x k) (w.second.0 ∙ ap (λ u. u.left) (w.view ∙ view_in_lem init)) ∙ bit-low (view_of init).left k h

    joined_is : IsSet j (joined_by (ring_of_word init) X)
    unfolding joined_by
    joined_is = record {
      small = w.joined.small w.first.1 w.joins.small;
      bits = λ k h. ap (λ x. bit x k) w.joined.is ∙ bit-or k p a ∙ ap₂ ◌||◌ (first_bit k h) (w.joins.bits k h);
    }

    left_is : IsSet l (left_by (ring_of_word init) X)
    unfolding left_by
    left_is = record {
      small = w.left.small w.second.1 (and_lt 16 j b joined_is.small w.leaves.small);
      bits = λ k h. ap (λ x. bit x k) w.left.is ∙ bit-or k q (bit_and j b) ∙ ap₂ ◌||◌ (second-bit k h) (bit-and k j b ∙ ap₂ ◌&&◌ (joined_is.bits k h) (w.leaves.bits k h));
    }

    pub wish-is : (r : ℕ) → view_of r ≡ pair (j % 65536) (l % 65536) → view_of r ≡ wished (ring_of_word init) X
    unfolding wished
    wish-is r e = e ∙ (λ i. record { joined = (low j joined_is.small ∙ set_is j (joined_by (ring_of_word init) X) joined_is) i; left = (low l left_is.small ∙ set_is l (left_by (ring_of_word init) X) left_is) i })
      where
        low : (x : ℕ) → x < 65536 → x % 65536 ≡ x
        low x h = omega arith

-- ---- one statement more

-- whether it is of this kind, in a half of those who asked before and of those who asked then
pub kind-noted : (s : Stmt) (k kind o half seen r noted : ℕ) → k ≡ s.kind → o ≡ s.origin → half ≡ seen → r ≡ noted → Noted half (eqb k kind) o noted → Noted seen (is_kind kind s) s.origin r
unfolding is_kind
kind-noted s k kind o half seen r noted e f g h n = subst (Noted seen (eqb s.kind kind) s.origin) (sym h) (subst (λ x. Noted x (eqb s.kind kind) s.origin noted) g (subst (λ x. Noted half (eqb s.kind kind) x noted) f (subst (λ x. Noted half (eqb x kind) o noted) e n)))

-- it is of a kind by which nobody asks
pub kind-passed : (s : Stmt) (k kind seen : ℕ) → k ≡ s.kind → kind < k → Noted seen (is_kind kind s) s.origin seen
unfolding is_kind
kind-passed s k kind seen e l = note-none seen s.origin (eqb s.kind kind) (ne_eqb s.kind kind (λ q. omega arith))
