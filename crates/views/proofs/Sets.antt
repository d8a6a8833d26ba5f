-- Laws of sets of controllers in one word, and of counts.
-- Assumes nothing.
use mathlib.Core.Path.{◌≡◌, refl, sym, ap, ap₂, ◌∙◌}
use mathlib.Core.Bool.{Bool, true, false, not, ◌&&◌, ◌||◌, and-true}
use Prim.Native.Nat.{ℕ, zero, suc, ◌+◌, ◌-◌, ◌*◌, ◌/◌, ◌%◌, ◌^◌, ◌≤◌, ◌<◌}
use native.Mathlib.Omega.{arith}
use lib.Dec.{eqb}
use native.Mathlib.Nat.{pow-succ', div-div-eq-div-mul}
use lib.Bits.{bit_and, bit_or, or_lt, and_le_l, and_le_r, and_mask, or_add_and}
use Rattle.protocol.specs.Sets.{bit, one, count, set_of, every, subset}
use Rattle.protocol.proofs.Bits.{bit-and, bit-or, bit-zero, bit-pow, bit-set_of, bits-ext}
use Rattle.views.specs.Steps.{Noted}
use Rattle.views.specs.Sets.{IsSet}

-- ---- one bit more

or-none : (x s e : Bool) → s ≡ false → x ≡ (x || (s && e))
or-none true s e h = refl
or-none false s e h = rw h

or-far : (x s e : Bool) → e ≡ false → x ≡ (x || (s && e))
or-far true s e h = refl
or-far false true e h = rw h
or-far false false e h = refl

pub note-none : (seen o : ℕ) (hit : Bool) → hit ≡ false → Noted seen hit o seen
note-none seen o hit e = record { small = λ l. l; bits = λ k l. or-none (bit seen k) hit (eqb o k) e }

one-le : (b : Bool) → one b ≤ 1
one-le true = omega arith
one-le false = omega arith

pow_pos : (b : ℕ) → 0 < 2 ^ b
pow_pos zero = omega arith
pow_pos (suc b) = omega (arith, pow_pos b)

pow-lt : (a b : ℕ) → a < b → 2 ^ a < 2 ^ b
pow-lt a zero l = absurd (omega arith)
pow-lt zero (suc b) l = omega (arith, pow_pos b)
pow-lt (suc a) (suc b) l = omega (arith, pow-lt a b (omega arith))

pub pow_small : (o : ℕ) → o < 16 → 2 ^ o < 2 ^ 16
pow_small o h = pow-lt o 16 h

pub note-bit : (seen o : ℕ) (hit : Bool) → hit ≡ true → o < 16 → Noted seen hit o (bit_or seen ((1 * 2 ^ o) % 4294967296))
note-bit seen o hit t h = rw e record {
  small = λ l. or_lt 16 seen (2 ^ o) l (pow_small o h);
  bits = λ k l. bit-or k seen (2 ^ o) ∙ ap (λ b. bit seen k || b) (bit-pow k o ∙ ap (λ b. b && eqb o k) (sym t));
}
  where
    e : (1 * 2 ^ o) % 4294967296 ≡ 2 ^ o
    e = omega (arith, pow_small o h)

-- ---- a set is the one that has just these

pub set_of-lt : (n : ℕ) (q : ℕ → Bool) → set_of n q < 2 ^ n
unfolding set_of
set_of-lt zero q = omega arith
set_of-lt (suc n) q = omega (arith, one-le (q 0), set_of-lt n (λ k. q (suc k)))

pub set_is : (r : ℕ) (q : ℕ → Bool) → IsSet r q → r ≡ set_of 16 q
set_is r q s = bits-ext 16 r (set_of 16 q) s.small (set_of-lt 16 q) (λ k l. s.bits k l ∙ sym (bit-set_of 16 q k l))

-- ---- the controllers below the width: 65535 is the set of all of them

pub bit_masked : (a k : ℕ) → k < 16 → bit (bit_and a 65535) k ≡ bit a k
unfolding set_of
bit_masked a k l = bit-and k a 65535 ∙ ap (λ b. bit a k && b) (bit-set_of 16 (λ _. true) k l) ∙ and-true (bit a k)

pub bit-low : (a k : ℕ) → k < 16 → bit (a % 65536) k ≡ bit a k
bit-low a k l = ap (λ x. bit x k) (sym (and_mask a 16)) ∙ bit_masked a k l

every-cong : (n : ℕ) (p q : ℕ → Bool) → ((k : ℕ) → k < n → p k ≡ q k) → every n p ≡ every n q
unfolding every
every-cong zero p q f = refl
every-cong (suc n) p q f = ap₂ ◌&&◌ (f n (omega arith)) (every-cong n p q (λ k l. f k (omega arith)))

pub subset-low : (a b : ℕ) → subset 16 (a % 65536) (b % 65536) ≡ subset 16 a b
unfolding subset
subset-low a b = every-cong 16 _ _ (λ k l. ap₂ (λ x y. not x || y) (bit-low a k l) (bit-low b k l))

-- ---- counts

pub count-cong : (n : ℕ) (p q : ℕ → Bool) → ((k : ℕ) → k < n → p k ≡ q k) → count n p ≡ count n q
unfolding count
count-cong zero p q f = refl
count-cong (suc n) p q f = ap₂ (λ x y. one x + y) (f n (omega arith)) (count-cong n p q (λ k l. f k (omega arith)))

pub count-le : (n : ℕ) (p : ℕ → Bool) → count n p ≤ n
unfolding count
count-le zero p = omega arith
count-le (suc n) p = omega (arith, one-le (p n), count-le n p)

pub count_low : (a : ℕ) → count 16 (bit (a % 65536)) ≡ count 16 (bit a)
count_low a = count-cong 16 _ _ (bit-low a)

-- ---- one set without another, and one bit of a set

pub bit-shift : (k a : ℕ) → eqb (a / 2 ^ k % 2) 1 ≡ bit a k
unfolding bit
bit-shift zero a = let e : a / 1 ≡ a = omega arith in ap (λ x. eqb (x % 2) 1) e
bit-shift (suc k) a = ap (λ x. eqb (x % 2) 1) (ap (λ x. a / x) (pow-succ' 2 k) ∙ sym (div-div-eq-div-mul a 2 (2 ^ k))) ∙ bit-shift k (a / 2)

pub bit-far : (n a k : ℕ) → a < 2 ^ n → n ≤ k → bit a k ≡ false
unfolding bit
bit-far zero a k l h = let e : a ≡ 0 = omega arith in rw e (bit-zero k)
bit-far (suc n) a zero l h = absurd (omega arith)
bit-far (suc n) a (suc k) l h = bit-far n (a / 2) k (omega arith) (omega arith)

pub set-without : (n a b : ℕ) → a < 2 ^ n → a - bit_and a b ≡ set_of n (λ k. bit a k && not (bit b k))
set-without n a b p = omega (arith, or_add_and rest (bit_and a b), joined, apart)
  where
    rest : ℕ
    rest = set_of n (λ k. bit a k && not (bit b k))

    without-and : (x y : Bool) → (x && not y || x && y) ≡ x
    without-and true true = refl
    without-and true false = refl
    without-and false y = refl

    both : (x y : Bool) → ((x && not y) && (x && y)) ≡ false
    both true true = refl
    both true false = refl
    both false y = refl

    small : bit_and a b < 2 ^ n
    small = omega (arith, and_le_l a b)

    of-rest : (k : ℕ) → k < n → bit rest k ≡ (bit a k && not (bit b k))
    of-rest k l = bit-set_of n (λ k. bit a k && not (bit b k)) k l

    joined : bit_or rest (bit_and a b) ≡ a
    joined = bits-ext n (bit_or rest (bit_and a b)) a (or_lt n rest (bit_and a b) (set_of-lt n (λ k. bit a k && not (bit b k))) small) p
        (λ k l. bit-or k rest (bit_and a b) ∙ ap₂ ◌||◌ (of-rest k l) (bit-and k a b) ∙ without-and (bit a k) (bit b k))

    apart : bit_and rest (bit_and a b) ≡ 0
    apart = bits-ext n (bit_and rest (bit_and a b)) 0 (omega (arith, and_le_r rest (bit_and a b), small)) (pow_pos n)
        (λ k l. bit-and k rest (bit_and a b) ∙ ap₂ ◌&&◌ (of-rest k l) (bit-and k a b) ∙ both (bit a k) (bit b k) ∙ sym (bit-zero k))
