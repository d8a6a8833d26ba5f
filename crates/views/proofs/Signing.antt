-- Sets of signers of a view, and the order in which views are written.
-- Assumes nothing.
use Rattle.std.specs.Prelude.{Some}
use Rattle.std.specs.declared.cmp.Ordering.TheVariants.{Less, Equal, Greater}
use Rattle.std.specs.Ordering.{is_some_and, is_lt, partial_ordering_then}
use mathlib.Core.Path.{◌≡◌, refl, sym, ap, ap₂, ◌∙◌}
use mathlib.Core.Bool.{Bool, true, false, cond, not, ◌&&◌, ◌||◌}
use Prim.Native.Nat.{ℕ, ◌-◌, ◌%◌, ◌<◌}
use native.Mathlib.Omega.{arith}
use lib.Dec.{leb}
use lib.Bits.{bit_and, and_le_l, and_mask}
use lib.Count.{ones}
use Rattle.protocol.specs.Sets.{bit, count, set_of}
use Rattle.protocol.specs.View.{View, member, quorum, member_count, has_members}
use Rattle.protocol.specs.Signers.{makes_quorum}
use Rattle.protocol.proofs.Bits.{bit-and, bit-set_of, bits-ext, ones-count}
use Rattle.views.specs.View.{view_of, view_in}
use Rattle.views.specs.Sets.{Among}
use Rattle.views.proofs.Sets.{set_of-lt, count_low, set-without}
use Rattle.views.proofs.Views.{view_in_lem, member-masked, count_masked, members-in}

-- ---- as written

-- pairs are compared by the first, and where that is the same by the second
pub pairs-lt : (l e m f : Bool) → is_some_and is_lt (partial_ordering_then (Some (cond l Less (cond e Equal Greater))) (Some (cond m Less (cond f Equal Greater)))) ≡ (l || e && m)
pairs-lt true e m f = refl
pairs-lt false true true f = refl
pairs-lt false true false true = refl
pairs-lt false true false false = refl
pairs-lt false false m f = refl

-- ---- members

module _ (w : ℕ) (v : View) (m : ℕ) (of : v ≡ view_in w) (e : m ≡ set_of 16 (member v)) where
  member_of : (k : ℕ) → k < 16 → bit m k ≡ member (view_of w) k
  member_of k l = ap (λ x. bit x k) e ∙ bit-set_of 16 (member v) k l ∙ ap (λ v. member v k) (of ∙ view_in_lem w) ∙ member-masked (view_of w) k l

  members-small : m < 65536
  members-small = rw e (set_of-lt 16 (member v))

  pub among : (a : ℕ) → Among (view_of w) a (bit_and m a)
  among a = record {
    is = λ q s. bits-ext 16 (bit_and m a) (set_of 16 (λ k. member (view_of w) k && q k)) (omega (arith, and_le_l m a, members-small)) (set_of-lt 16 (λ k. member (view_of w) k && q k))
        (λ k l. bit-and k m a ∙ ap₂ ◌&&◌ (member_of k l) (s.bits k l) ∙ sym (bit-set_of 16 (λ k. member (view_of w) k && q k) k l));
  }

  pub without : (a : ℕ) → m - bit_and m a ≡ set_of 16 (λ k. member (view_of w) k && not (bit a k))
  without a = set-without 16 m a members-small ∙ set-cong (λ k. bit m k && not (bit a k)) (λ k. member (view_of w) k && not (bit a k)) (λ k l. ap (λ b. b && not (bit a k)) (member_of k l))
    where
      set-cong : (p q : ℕ → Bool) → ((k : ℕ) → k < 16 → p k ≡ q k) → set_of 16 p ≡ set_of 16 q
      set-cong p q f = bits-ext 16 (set_of 16 p) (set_of 16 q) (set_of-lt 16 p) (set_of-lt 16 q) (λ k l. bit-set_of 16 p k l ∙ f k l ∙ sym (bit-set_of 16 q k l))

-- ---- a set that makes a quorum

module _ (w : ℕ) (v : View) (a : ℕ) (of : v ≡ view_in w) (b : Bool) (has : b ≡ has_members 16 v) where
  member-test : b ≡ has_members 16 (view_of w)
  member-test = has ∙ ap (has_members 16) of ∙ members-in w

  pub quorum-none : b ≡ false → false ≡ makes_quorum 16 (view_of w) a
  unfolding makes_quorum
  quorum-none f = sym (ap (λ h. h && leb (quorum (member_count 16 (view_of w))) (count 16 (bit a))) (sym member-test ∙ f))

  pub quorum-some : b ≡ true → (q n : ℕ) → q ≡ quorum (member_count 16 v) → n ≡ ones (bit_and a 65535) → leb q n ≡ makes_quorum 16 (view_of w) a
  unfolding makes_quorum
  quorum-some f q n e g =
      ap₂ leb (e ∙ ap (λ v. quorum (member_count 16 v)) (of ∙ view_in_lem w) ∙ ap quorum (count_masked (view_of w))) (g ∙ ap ones (and_mask a 16) ∙ ones-count 16 (a % 65536) (omega arith) ∙ count_low a)
      ∙ sym (ap (λ h. h && leb (quorum (member_count 16 (view_of w))) (count 16 (bit a))) (sym member-test ∙ f))
