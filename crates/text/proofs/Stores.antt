-- Runs of stores, and the steps of the writers. Assumes nothing.
use Prim.Native.Nat.{ℕ, zero, suc, ◌+◌, ◌-◌, ◌*◌, ◌/◌, ◌%◌, ◌<◌, ◌≤◌}
use native.Mathlib.Nat.{add-zero, suc-add, add-suc}
use native.Mathlib.Numerals.{add-one}
use native.Mathlib.Omega.{arith}
use mathlib.Core.Path.{◌≡◌, refl, sym, ap, subst, ◌∙◌}
use mathlib.Core.List.{List, [], ◌∷◌, ◌++◌, append_assoc}
use lib.ListN.{length, take, get_or, set, length-append}
use lib.Seq.{sets, take-suc, take_all, length-take-le, set_comm}
use Rattle.text.specs.Text.{glyph, dec_text, hex_text}
use Rattle.text.specs.Written.{Wrote}
use Rattle.text.proofs.Decimal.{dec-small, dec-grow, one-long, one-longer, some-long}

-- texts stored one after the other
pub sets-append : (xs ys l : List ℕ) (i : ℕ) → sets l i (xs ++ ys) ≡ sets (sets l i xs) (i + length xs) ys
sets-append [] ys l i = rw (add-zero i)
sets-append (x ∷ xs) ys l i = sets-append xs ys (set l i x) (suc i) ∙ ap (λ (k : ℕ). sets (sets (set l i x) (suc i) xs) k ys) (suc-add i (length xs) ∙ sym (add-suc i (length xs)))

-- ---- what writers promise, put together

-- two texts, one after the other
pub both : {out₀ out₁ out₂ s t : List ℕ} {at a b : ℕ} → Wrote out₀ at s a out₁ → Wrote out₁ a t b out₂ → Wrote out₀ at (s ++ t) b out₂
both {out₀} {out₁} {out₂} {s} {t} {at} {a} {b} v w = record {
  next = w.next ∙ omega (arith, v.next, length-append s t);
  is = w.is ∙ ap (λ o. sets o a t) v.is ∙ ap (λ k. sets (sets out₀ at s) k t) v.next ∙ sym (sets-append s t out₀ at);
}

-- a text in another form
pub wrote_as : {out after s t : List ℕ} {at n : ℕ} → s ≡ t → Wrote out at s n after → Wrote out at t n after
wrote_as {out} {after} {at = at} {n = n} e w = subst (λ t. Wrote out at t n after) e w

-- one byte before a text
pub after-byte : {out out₁ t : List ℕ} {at n : ℕ} (b : ℕ) → Wrote (set out at b) (at + 1) t n out₁ → Wrote out at (b ∷ t) n out₁
after-byte {at = at} b w = record { next = w.next ∙ omega arith; is = w.is ∙ rw (add-one at) }

-- one byte more of a text
pub text-next : (out₀ out t : List ℕ) (at i : ℕ) → i < length t → out ≡ sets out₀ at (take i t) → set out (at + i) (get_or t i 0) ≡ sets out₀ at (take (i + 1) t)
text-next out₀ out t at i h e =
    let n : length (take i t) ≡ i = length-take-le i t (omega arith) in
    ap (λ (o : List ℕ). set o (at + i) (get_or t i 0)) e ∙ ap (λ (k : ℕ). sets (sets out₀ at (take i t)) (at + k) (get_or t i 0 ∷ [])) (sym n)
    ∙ sym (sets-append (take i t) (get_or t i 0 ∷ []) out₀ at) ∙ ap (sets out₀ at) (sym (ap (λ (k : ℕ). take k t) (add-one i) ∙ take-suc t i 0 h))

-- the whole of it
pub text-whole : (out₀ out t : List ℕ) (at i : ℕ) → i ≤ length t → length t ≤ i → out ≡ sets out₀ at (take i t) → Wrote out₀ at t (at + i) out
text-whole out₀ out t at i h g e = record { next = ap (λ k. at + k) (omega arith); is = e ∙ ap (sets out₀ at) (take_all i t g) }

-- ---- stores from the last one on

-- a store before a run goes first
set-sets : (l : List ℕ) (i j x : ℕ) (xs : List ℕ) → j < i → set (sets l i xs) j x ≡ sets (set l j x) i xs
set-sets l i j x [] h = refl
set-sets l i j x (y ∷ xs) h = set-sets (set l i y) (suc i) j x xs (omega arith) ∙ ap (λ (m : List ℕ). sets m (suc i) xs) (set_comm l i j y x (λ e. omega arith))

-- a store just before a run makes it longer
pub sets-before : (l : List ℕ) (i x : ℕ) (xs : List ℕ) → 0 < i → set (sets l i xs) (i - 1) x ≡ sets l (i - 1) (x ∷ xs)
sets-before l i x xs h = set-sets l i (i - 1) x xs (omega arith) ∙ ap (λ (k : ℕ). sets (set l (i - 1) x) k xs) (omega arith)

-- ---- a decimal of one digit
pub one-digit : (out : List ℕ) (at v : ℕ) → v < 10 → Wrote out at (dec_text v) (at + 1) (set out at (glyph v))
one-digit out at v h = record { next = omega (arith, one-long v h); is = rw (dec-small v h) }

-- ---- a decimal, written from its last digit on: the digits of x are still to come, and end before i
pub record Left (out₀ : List ℕ) (at v : ℕ) (out : List ℕ) (i x : ℕ) : Type 0 where
  pub tail : List ℕ
  pub split : dec_text v ≡ dec_text x ++ tail
  pub place : i ≡ at + length (dec_text x)
  pub stored : out ≡ sets out₀ i tail

module _ (out₀ : List ℕ) (at v : ℕ) where
  module _ (out : List ℕ) (i x : ℕ) (l : Left out₀ at v out i x) where
    pub left_one : 0 < i
    left_one = omega (arith, l.place, some-long x)

    pub left-two : 10 ≤ x → 1 < i
    left-two g = omega (arith, l.place, one-longer x g, some-long (x / 10))

    left_step : 10 ≤ x → Left out₀ at v (set out (i - 1) (glyph (x % 10))) (i - 1) (x / 10)
    left_step g = record {
      tail = glyph (x % 10) ∷ l.tail;
      split = l.split ∙ ap (λ (t : List ℕ). t ++ l.tail) (dec-grow x g) ∙ append_assoc (dec_text (x / 10)) (glyph (x % 10) ∷ []) l.tail;
      place = omega (arith, l.place, one-longer x g);
      stored = ap (λ (t : List ℕ). set t (i - 1) (glyph (x % 10))) l.stored ∙ sets-before out₀ i (glyph (x % 10)) l.tail left_one;
    }

    pub left_end : x < 10 → set out (i - 1) (glyph x) ≡ sets out₀ at (dec_text v)
    left_end h =
        let e : i - 1 ≡ at = omega (arith, l.place, one-long x h) in
        ap (λ (t : List ℕ). set t (i - 1) (glyph x)) l.stored ∙ sets-before out₀ i (glyph x) l.tail left_one
        ∙ ap (λ (k : ℕ). sets out₀ k (glyph x ∷ l.tail)) e ∙ ap (sets out₀ at) (sym (l.split ∙ ap (λ (t : List ℕ). t ++ l.tail) (dec-small x h)))

  module _ (out : List ℕ) (i x : ℕ) (l : Left out₀ at v out i x) where
    pub left-next : 100 ≤ x → Left out₀ at v (set (set out (i - 1) (glyph (x % 100 % 10))) (i - 2) (glyph (x % 100 / 10))) (i - 2) (x / 100)
    left-next g =
        let a : x % 100 % 10 ≡ x % 10 = omega arith in
        let d : x / 100 ≡ x / 10 / 10 = omega arith in
        let f : x % 100 ≡ x / 10 % 10 * 10 + x % 10 = omega arith in
        let b : x % 100 / 10 ≡ x / 10 % 10 = omega arith in
        let e : i - 2 ≡ i - 1 - 1 = omega arith in
        rw (a, b, d, e) (left_step (set out (i - 1) (glyph (x % 10))) (i - 1) (x / 10) (left_step out i x l (omega arith)) (omega arith))

    pub left-end-two : 10 ≤ x → x < 100 → set (set out (i - 1) (glyph (x % 10))) (i - 2) (glyph (x / 10)) ≡ sets out₀ at (dec_text v)
    left-end-two g h =
        let e : i - 2 ≡ i - 1 - 1 = omega arith in
        rw e (left_end (set out (i - 1) (glyph (x % 10))) (i - 1) (x / 10) (left_step out i x l g) (omega arith))

-- ---- a set, the same way: i - at digits are still to come
pub record HexLeft (out₀ : List ℕ) (at v k : ℕ) (out : List ℕ) (i x : ℕ) : Type 0 where
  pub tail : List ℕ
  pub split : hex_text k v ≡ hex_text (i - at) x ++ tail
  pub stored : out ≡ sets out₀ i tail

pub hex-next : (k x : ℕ) → 0 < k → hex_text k x ≡ hex_text (k - 1) (x / 16) ++ (glyph (x % 16) ∷ [])
unfolding hex_text
hex-next zero x h = absurd (omega arith)
hex-next (suc k) x h = let e : suc k - 1 ≡ k = omega arith in rw e

pub hex-none : (x : ℕ) → hex_text 0 x ≡ []
unfolding hex_text
hex-none x = refl

module _ (out₀ : List ℕ) (at v k : ℕ) where
  module _ (out : List ℕ) (i x : ℕ) (l : HexLeft out₀ at v k out i x) where
    pub hex-step-back : at < i → HexLeft out₀ at v k (set out (i - 1) (glyph (x % 16))) (i - 1) (x / 16)
    hex-step-back h =
        let d : i - at - 1 ≡ i - 1 - at = omega arith in record {
          tail = glyph (x % 16) ∷ l.tail;
          split = l.split ∙ ap (λ (t : List ℕ). t ++ l.tail) (hex-next (i - at) x (omega arith) ∙ ap (λ (j : ℕ). hex_text j (x / 16) ++ (glyph (x % 16) ∷ [])) d) ∙ append_assoc (hex_text (i - 1 - at) (x / 16)) (glyph (x % 16) ∷ []) l.tail;
          stored = ap (λ (t : List ℕ). set t (i - 1) (glyph (x % 16))) l.stored ∙ sets-before out₀ i (glyph (x % 16)) l.tail (omega arith);
        }

    pub hex-done : i ≡ at → out ≡ sets out₀ at (hex_text k v)
    hex-done e =
        let d : i - at ≡ 0 = omega arith in
        l.stored ∙ ap (λ (j : ℕ). sets out₀ j l.tail) e ∙ ap (sets out₀ at) (sym (l.split ∙ ap (λ (j : ℕ). hex_text j x ++ l.tail) d ∙ ap (λ (t : List ℕ). t ++ l.tail) (hex-none x)))
