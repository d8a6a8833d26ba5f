-- Laws of views in one word: each is what one function of words needs.
-- Assumes nothing.
use mathlib.Core.Path.{◌≡◌, refl, sym, ap, ap₂, ◌∙◌}
use mathlib.Core.Bool.{Bool, true, false, not, ◌&&◌}
use Prim.Native.Nat.{ℕ, ◌+◌, ◌*◌, ◌/◌, ◌%◌, ◌≤◌, ◌<◌}
use native.Mathlib.Omega.{arith}
use lib.Dec.{eqb, leb, ltb}
use lib.Bits.{bit_and, and_mask, and_mod, and_shr}
use lib.Count.{ones, ones_cat}
use borrow.Author.Tests.{eq-eqb, ne_eqb}
use Rattle.protocol.specs.Sets.{bit, set_of}
use Rattle.protocol.specs.View.{View, same_view, member, member_count, has_members, within, below, size}
use Rattle.protocol.proofs.Says.{Says, says_map, says-unique, says-and, says-not, says-eqb}
use Rattle.protocol.proofs.Bits.{bit-set_of, ones-count, subset-and, below_of, Fits}
use Rattle.protocol.proofs.Decided.{says_same, says-below, says-within}
use Rattle.views.specs.View.{view_of, view_in}
use Rattle.views.proofs.Sets.{set_of-lt, count-cong, count-le, bit-low, count_low, subset-low}

-- ---- a test and what it decides

pub passes : {b : Bool} {P : Type 0} → Says b P → P → b ≡ true
passes {b = true} s p = refl
passes {b = false} s p = absurd (s.complete p)

pub fails : {b : Bool} {P : Type 0} → Says b P → (P → ⊥) → b ≡ false
fails {b = true} s n = absurd (n (s.sound tt))
fails {b = false} s n = refl

pub same-yes : (u v : View) → u ≡ v → same_view u v ≡ true
same-yes u v e = passes says_same e

pub same-no : (u v : View) → (u ≡ v → ⊥) → same_view u v ≡ false
same-no u v n = fails says_same n

-- ---- words and their views

abbrev pub pair : ℕ → ℕ → View
pair a b = record { joined = a; left = b }

-- words of 64 bits are the same if their views are
pub view-inj : (a b : ℕ) → a < 18446744073709551616 → b < 18446744073709551616 → view_of a ≡ view_of b → a ≡ b
unfolding view_of
view-inj a b p q e =
    let j : a % 4294967296 ≡ b % 4294967296 = ap (λ v. v.joined) e in
    let l : a / 4294967296 % 4294967296 ≡ b / 4294967296 % 4294967296 = ap (λ v. v.left) e in
    omega arith

pub same_view_lem : (a b : ℕ) → a < 18446744073709551616 → b < 18446744073709551616 → eqb a b ≡ same_view (view_of a) (view_of b)
same_view_lem a b p q = says-unique (says_map (ap view_of) (view-inj a b p q) says-eqb) says_same

-- the word a is of the view A: it is compared with the word t

pub view-is : (a : ℕ) (A : View) (t : ℕ) → view_of a ≡ A → a ≡ t → a < 18446744073709551616 → t < 18446744073709551616 → same_view A (view_of t) ≡ true
view-is a A t e f p q = rw (sym e) (sym (same_view_lem a t p q) ∙ eq-eqb a t f)

pub view-not : (a : ℕ) (A : View) (t : ℕ) → view_of a ≡ A → (a ≡ t → ⊥) → a < 18446744073709551616 → t < 18446744073709551616 → same_view A (view_of t) ≡ false
view-not a A t e f p q = rw (sym e) (sym (same_view_lem a t p q) ∙ ne_eqb a t f)

pub view-eqb : (a : ℕ) (A : View) (t : ℕ) → view_of a ≡ A → a < 18446744073709551616 → t < 18446744073709551616 → eqb a t ≡ same_view A (view_of t)
view-eqb a A t e p q = same_view_lem a t p q ∙ ap (λ v. same_view v (view_of t)) e

-- ---- members and quorums

-- the members as one set r: how many they are

module _ (v : View) (r : ℕ) (e : r ≡ set_of 16 (member v)) where
  member-bit : (k : ℕ) → k < 16 → bit r k ≡ member v k
  member-bit k l = ap (λ x. bit x k) e ∙ bit-set_of 16 (member v) k l

  members-fit : r < 65536
  members-fit = rw e (set_of-lt 16 (member v))

  pub counted : ones r ≡ member_count 16 v
  unfolding member_count
  counted = ones-count 16 r members-fit ∙ count-cong 16 _ _ member-bit

pub at_most : (v : View) → member_count 16 v ≤ 16
unfolding member_count
at_most v = count-le 16 (member v)

-- ---- a view of the controllers below the width alone

abbrev pub masked : View → View
masked v = pair (v.joined % 65536) (v.left % 65536)

pub view_in_lem : (w : ℕ) → view_in w ≡ masked (view_of w)
unfolding view_in view_of
view_in_lem w i = record {
  joined = (let e : w % 65536 ≡ w % 4294967296 % 65536 = omega arith in e) i;
  left = (let e : w / 4294967296 % 65536 ≡ w / 4294967296 % 4294967296 % 65536 = omega arith in e) i;
}

-- the view that a word is of has no other bits, where it is a view of the sixteen controllers
pub view-whole : (w : ℕ) {v : View} → view_of w ≡ v → Fits 16 v → view_in w ≡ v
view-whole w {v} e f i = (view_in_lem w ∙ ap masked e ∙ whole) i
  where
    whole : masked v ≡ v
    whole i = record { joined = (let e : v.joined % 65536 ≡ v.joined = omega (arith, f.joined) in e) i; left = (let e : v.left % 65536 ≡ v.left = omega (arith, f.left) in e) i }

pub fits_in : (w : ℕ) → Fits 16 (view_in w)
unfolding view_in
fits_in w = record { joined = omega arith; left = omega arith }

within-masked : (u v : View) → within 16 (masked u) (masked v) ≡ within 16 u v
unfolding within
within-masked u v = ap₂ ◌&&◌ (subset-low u.joined v.joined) (subset-low u.left v.left)

size-masked : (v : View) → size 16 (masked v) ≡ size 16 v
unfolding size
size-masked v = ap₂ ◌+◌ (count_low v.joined) (count_low v.left)

below-masked : (u v : View) → below 16 (masked u) (masked v) ≡ below 16 u v
unfolding below
below-masked u v = ap₂ ◌&&◌ (within-masked u v) (ap₂ ltb (size-masked u) (size-masked v))

pub member-masked : (v : View) (k : ℕ) → k < 16 → member (masked v) k ≡ member v k
member-masked v k l = ap₂ (λ x y. x && not y) (bit-low v.joined k l) (bit-low v.left k l)

pub count_masked : (v : View) → member_count 16 (masked v) ≡ member_count 16 v
unfolding member_count
count_masked v = count-cong 16 _ _ (member-masked v)

pub members-in : (w : ℕ) → has_members 16 (view_in w) ≡ has_members 16 (view_of w)
members-in w = ap (has_members 16) (view_in_lem w) ∙ ap (leb 1) (count_masked (view_of w))

pub narrow-is : (w : ℕ) → view_of (bit_and w 281470681808895) ≡ view_in w
unfolding view_of view_in
narrow-is w i = record { joined = low i; left = high i }
  where
    low : bit_and w 281470681808895 % 4294967296 ≡ w % 65536
    low = omega (arith, and_mod w 281470681808895 32, and_mask (w % 4294967296) 16)

    high : bit_and w 281470681808895 / 4294967296 % 4294967296 ≡ w / 4294967296 % 65536
    high = omega (arith, and_shr w 281470681808895 32, and_mask (w / 4294967296) 16)

-- ---- the word a is of the view u, of the controllers below the width alone

pub record Narrowed (u a : ℕ) : Type 0 where
  pub word : a < 18446744073709551616
  pub view : view_of a ≡ view_in u

narrowed-fits : (u a : ℕ) → Narrowed u a → Fits 16 (view_of a)
narrowed-fits u a n = rw n.view (fits_in u)

narrowed-view : (u a : ℕ) → Narrowed u a → view_of a ≡ masked (view_of u)
narrowed-view u a n = n.view ∙ view_in_lem u

within-fits : (u v : ℕ) → u < 18446744073709551616 → v < 18446744073709551616 → Fits 16 (view_of u) → Fits 16 (view_of v) → eqb (bit_and u v) u ≡ within 16 (view_of u) (view_of v)
unfolding within view_of
within-fits u v p q f g =
    says-unique (says_map (λ e. (low e, high e)) (λ h. join h.0 h.1) says-eqb) (says-and says-eqb says-eqb)
    ∙ ap₂ ◌&&◌ (subset-and 16 (u % 4294967296) (v % 4294967296) f.joined g.joined) (subset-and 16 (u / 4294967296 % 4294967296) (v / 4294967296 % 4294967296) f.left g.left)
  where
    high-of : (x : ℕ) → x < 18446744073709551616 → x / 4294967296 % 4294967296 ≡ x / 4294967296
    high-of x l = omega arith

    lows : bit_and u v % 4294967296 ≡ bit_and (u % 4294967296) (v % 4294967296)
    lows = and_mod u v 32

    highs : bit_and u v / 4294967296 ≡ bit_and (u / 4294967296 % 4294967296) (v / 4294967296 % 4294967296)
    highs = and_shr u v 32 ∙ ap₂ bit_and (sym (high-of u p)) (sym (high-of v q))

    low : bit_and u v ≡ u → bit_and (u % 4294967296) (v % 4294967296) ≡ u % 4294967296
    low e = sym lows ∙ ap (λ x. x % 4294967296) e

    high : bit_and u v ≡ u → bit_and (u / 4294967296 % 4294967296) (v / 4294967296 % 4294967296) ≡ u / 4294967296 % 4294967296
    high e = sym highs ∙ ap (λ x. x / 4294967296) e ∙ sym (high-of u p)

    join : bit_and (u % 4294967296) (v % 4294967296) ≡ u % 4294967296 → bit_and (u / 4294967296 % 4294967296) (v / 4294967296 % 4294967296) ≡ u / 4294967296 % 4294967296 → bit_and u v ≡ u
    join a b = omega (arith, lows ∙ a, highs ∙ b)

size_fits : (a : ℕ) → a < 18446744073709551616 → Fits 16 (view_of a) → ones a ≡ size 16 (view_of a)
unfolding size view_of
size_fits a h f =
    let e : a ≡ a / 4294967296 % 4294967296 * 4294967296 + a % 4294967296 = omega arith in
    ap ones e ∙ omega (arith, ones_cat 32 (a / 4294967296 % 4294967296) (a % 4294967296) (omega arith), ones-count 16 (a % 4294967296) f.joined, ones-count 16 (a / 4294967296 % 4294967296) f.left)

pub size_word : (v a : ℕ) → Narrowed v a → ones a ≡ size 16 (view_of v)
size_word v a n = size_fits a n.word (narrowed-fits v a n) ∙ ap (size 16) (narrowed-view v a n) ∙ size-masked (view_of v)

pub size-most : (v : View) → size 16 v ≤ 32
unfolding size
size-most v = omega (arith, count-le 16 (bit v.joined), count-le 16 (bit v.left))

-- ---- within, strictly within

pub below-stop : (u v : ℕ) (w : Bool) → w ≡ within 16 (view_of u) (view_of v) → w ≡ false → false ≡ below 16 (view_of u) (view_of v)
unfolding below
below-stop u v w e f = rw (sym e ∙ f)

module _ (u v a b : ℕ) (n : Narrowed u a) (m : Narrowed v b) where
  pub within-words : eqb (bit_and a b) a ≡ within 16 (view_of u) (view_of v)
  within-words = within-fits a b n.word m.word (narrowed-fits u a n) (narrowed-fits v b m) ∙ ap₂ (within 16) (narrowed-view u a n) (narrowed-view v b m) ∙ within-masked (view_of u) (view_of v)

  lies : (w : Bool) → w ≡ within 16 (view_of u) (view_of v) → w ≡ true → within 16 (view_of a) (view_of b) ≡ true
  lies w e t = ap₂ (within 16) (narrowed-view u a n) (narrowed-view v b m) ∙ within-masked (view_of u) (view_of v) ∙ sym e ∙ t

  below-fits : within 16 (view_of a) (view_of b) ≡ true → not (eqb a b) ≡ below 16 (view_of a) (view_of b)
  below-fits l =
      says-unique
      (says_map (λ d. below_of (narrowed-fits u a n) (narrowed-fits v b m) (says-within.sound (rw l tt)) (λ h. d (view-inj a b n.word m.word h)))
      (λ l h. omega (arith, l.less, ap (λ x. size 16 (view_of x)) h)) (says-not says-eqb))
      says-below

  pub below-words : (w : Bool) → w ≡ within 16 (view_of u) (view_of v) → w ≡ true → not (eqb a b) ≡ below 16 (view_of u) (view_of v)
  below-words w e t = below-fits (lies w e t) ∙ ap₂ (below 16) (narrowed-view u a n) (narrowed-view v b m) ∙ below-masked (view_of u) (view_of v)

-- it does not matter which of the two is asked
pub same-flip : (u v : View) → same_view u v ≡ same_view v u
same-flip u v = says-unique (says_map (λ e. sym e) (λ e. sym e) says_same) says_same

-- bits that stand for no controller do not matter to who lies below whom
pub below-in : (u v : ℕ) → below 16 (view_in u) (view_in v) ≡ below 16 (view_of u) (view_of v)
below-in u v = ap₂ (below 16) (view_in_lem u) (view_in_lem v) ∙ below-masked (view_of u) (view_of v)
