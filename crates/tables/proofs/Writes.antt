-- Laws of the tables' memory: what one number or one word more says.
-- Assumes nothing.
use mathlib.Core.Path.{◌≡◌, refl, ap, ◌∙◌}
use mathlib.Core.List.{List, ◌++◌}
use Prim.Native.Nat.{ℕ, zero, suc, ◌+◌, ◌-◌, ◌*◌, ◌≤◌, ◌<◌}
use native.Mathlib.Decide.{dec_lt}
use native.Mathlib.Omega.{arith}
use borrow.Rule.Slice.PartMut.{put_mid, mid_of, post_of}
use Rattle.std.proofs.lemmas.List.{get_or_append_left, get_or-append_right, get_or-take, get_or-drop}
use lib.ListN.{length, get_or, set, take, drop, length-set, length-take, length-drop, replicate, length-replicate, get_or-replicate}
use lib.Seq.{get_or-set_same, get_or-set_other}
use Rattle.std.specs.Prelude.{Option, Some, None, SomeIff}
use Rattle.std.proofs.Common.{add-one}
use Rattle.tables.specs.Index.{row_of, newest_at, older_at, number_at, key_at, SlotsCleared, RowLinked, RowNumbered, RowKeyed}

-- ---- the rows of links

row_of-none : row_of 0 ≡ None
unfolding row_of
row_of-none = refl

row_of-next : (i : ℕ) → row_of (i + 1) ≡ Some i
unfolding row_of
row_of-next i = rw add-one refl

-- a link read as a row, as the function does it
pub row-read : (x : ℕ) (r : Option ℕ) → SomeIff r (1 ≤ x) (x - 1) → r ≡ row_of x
unfolding row_of
row-read zero None s = refl
row-read zero (Some i) s = absurd (let l = s.0 in omega arith)
row-read (suc x) None s = absurd (s (omega arith))
row-read (suc x) (Some i) s = let e : i ≡ x = omega (arith, s.1) in ap Some e

-- ---- clearing

-- 256 numbers from a on are 0 now

module _ (R zeros : List ℕ) (a k : ℕ) (short : a + 256 ≤ length R) (many : k ≡ 256) (e : zeros ≡ replicate 256 0) where
  front : length (take a R) ≡ a
  front = omega (arith, length-take a R)

  long : length zeros ≡ 256
  long = ap length e ∙ length-replicate {A = ℕ} 256 0

  zeros-below : (j : ℕ) → j < a → get_or (put_mid a k R zeros) j 0 ≡ get_or R j 0
  zeros-below j l = get_or_append_left (take a R) _ 0 j (omega (arith, front)) ∙ get_or-take a R j 0 l

  after : (j : ℕ) → a ≤ j → get_or (put_mid a k R zeros) j 0 ≡ get_or (zeros ++ post_of a k R) (j - a) 0
  after j l = get_or-append_right (take a R) _ a j 0 front l

  zeros-here : (z : ℕ) → z < 256 → get_or (put_mid a k R zeros) (a + z) 0 ≡ 0
  zeros-here z l =
      let back : a + z - a ≡ z = omega arith in
      after (a + z) (omega arith) ∙ ap (λ i. get_or (zeros ++ post_of a k R) i 0) back ∙ get_or_append_left zeros _ 0 z (omega (arith, long)) ∙ ap (λ l. get_or l z 0) e
      ∙ get_or-replicate 256 z 0 0 l

  zeros-above : (j : ℕ) → a + 256 ≤ j → get_or (put_mid a k R zeros) j 0 ≡ get_or R j 0
  zeros-above j l =
      let back : a + (k + (j - a - 256)) ≡ j = omega arith in
      after j (omega arith) ∙ get_or-append_right zeros _ 256 (j - a) 0 long (omega arith)
      ∙ get_or-drop k (drop a R) (j - a - 256) 0 ∙ get_or-drop a R (k + (j - a - 256)) 0 ∙ ap (λ i. get_or R i 0) back

-- what `fill` did to the slots of table t
pub slots-filled : (R : List ℕ) (t k : ℕ) {zeros : List ℕ} → length R ≡ 2560 → t < 2 → k ≡ 256 → zeros ≡ replicate (length (mid_of (t * 1280) k R)) 0 → zeros ≡ replicate 256 0
slots-filled R t k h b m e =
    let n : length (mid_of (t * 1280) k R) ≡ 256 = simp (length-take, length-drop) (omega arith) in
    e ∙ ap (λ n. replicate n 0) n

pub cleared : {R zeros : List ℕ} {t k : ℕ} → length R ≡ 2560 → t < 2 → k ≡ 256 → zeros ≡ replicate 256 0 → SlotsCleared R t (put_mid (t * 1280) k R zeros)
unfolding newest_at older_at number_at
cleared {R} {zeros} {t} {k} h b m e = record {
  empty = record { none = λ z l. ap row_of (zeros-here R zeros (t * 1280) k s m e z l) ∙ row_of-none };
  others = λ u l d. record {
    newest = λ z n. ap row_of (rest (u * 1280 + z) (λ f g. omega arith));
    older = λ i n. ap row_of (rest (u * 1280 + 256 + i) (λ f g. omega arith));
    number = λ i n. rest (u * 1280 + 768 + i) (λ f g. omega arith);
  };
}
  where
    s : t * 1280 + 256 ≤ length R
    s = omega arith

    rest : (j : ℕ) → (t * 1280 ≤ j → j < t * 1280 + 256 → ⊥) → get_or (put_mid (t * 1280) k R zeros) j 0 ≡ get_or R j 0
    rest j f = elim (dec_lt j (t * 1280)) [
      | yes l ↦ zeros-below R zeros (t * 1280) k s m e j l
      | no l ↦ zeros-above R zeros (t * 1280) k s m e j (omega (arith, f))
    ]

-- ---- a row into a slot

pub linked : (R : List ℕ) (t s i b : ℕ) → length R ≡ 2560 → t < 2 → s < 256 → i < 512 → b ≡ get_or R (t * 1280 + s) 0
    → RowLinked R t s i (set (set R (t * 1280 + 256 + i) b) (t * 1280 + s) (i + 1))
unfolding newest_at older_at number_at
linked R t s i b h p q l e = record {
  newest = ap row_of (get_or-set_same (set R (t * 1280 + 256 + i) b) (t * 1280 + s) (i + 1) 0 (omega (arith, length-set R (t * 1280 + 256 + i) b))) ∙ row_of-next i;
  older = ap row_of (get_or-set_other (set R (t * 1280 + 256 + i) b) (t * 1280 + s) (t * 1280 + 256 + i) (i + 1) 0 (λ d. omega arith) ∙ get_or-set_same R (t * 1280 + 256 + i) b 0 (omega arith) ∙ e);
  slots = λ z m d. ap row_of (other (t * 1280 + z) (λ f. omega arith) (λ f. omega arith));
  links = λ j m d. ap row_of (other (t * 1280 + 256 + j) (λ f. omega arith) (λ f. omega arith));
  numbers = λ j m. other (t * 1280 + 768 + j) (λ f. omega arith) (λ f. omega arith);
  others = λ u m d. record {
    newest = λ z k. ap row_of (other (u * 1280 + z) (λ f. omega arith) (λ f. omega arith));
    older = λ j k. ap row_of (other (u * 1280 + 256 + j) (λ f. omega arith) (λ f. omega arith));
    number = λ j k. other (u * 1280 + 768 + j) (λ f. omega arith) (λ f. omega arith);
  };
}
  where
    other : (j : ℕ) → (j ≡ t * 1280 + s → ⊥) → (j ≡ t * 1280 + 256 + i → ⊥) → get_or (set (set R (t * 1280 + 256 + i) b) (t * 1280 + s) (i + 1)) j 0 ≡ get_or R j 0
    other j d f = get_or-set_other (set R (t * 1280 + 256 + i) b) (t * 1280 + s) j (i + 1) 0 d ∙ get_or-set_other R (t * 1280 + 256 + i) j b 0 f

-- ---- a number and a key

pub numbered : (R : List ℕ) (t i x : ℕ) → length R ≡ 2560 → t < 2 → i < 512 → RowNumbered R t i x (set R (t * 1280 + 768 + i) x)
unfolding newest_at older_at number_at
numbered R t i x h p l = record {
  here = get_or-set_same R (t * 1280 + 768 + i) x 0 (omega arith);
  numbers = λ j m d. get_or-set_other R (t * 1280 + 768 + i) (t * 1280 + 768 + j) x 0 (λ f. omega arith);
  slots = λ z m. ap row_of (get_or-set_other R (t * 1280 + 768 + i) (t * 1280 + z) x 0 (λ f. omega arith));
  links = λ j m. ap row_of (get_or-set_other R (t * 1280 + 768 + i) (t * 1280 + 256 + j) x 0 (λ f. omega arith));
  others = λ u m d. record {
    newest = λ z k. ap row_of (get_or-set_other R (t * 1280 + 768 + i) (u * 1280 + z) x 0 (λ f. omega arith));
    older = λ j k. ap row_of (get_or-set_other R (t * 1280 + 768 + i) (u * 1280 + 256 + j) x 0 (λ f. omega arith));
    number = λ j k. get_or-set_other R (t * 1280 + 768 + i) (u * 1280 + 768 + j) x 0 (λ f. omega arith);
  };
}

pub keyed : (K : List ℕ) (t i w : ℕ) → length K ≡ 1024 → t < 2 → i < 512 → RowKeyed K t i w (set K (t * 512 + i) w)
unfolding key_at
keyed K t i w h p l = record {
  here = get_or-set_same K (t * 512 + i) w 0 (omega arith);
  keys = λ j m d. get_or-set_other K (t * 512 + i) (t * 512 + j) w 0 (λ f. omega arith);
  others = λ u m d. record { key = λ j k. get_or-set_other K (t * 512 + i) (u * 512 + j) w 0 (λ f. omega arith) };
}
