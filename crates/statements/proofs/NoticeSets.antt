-- Laws of sets of notices in one word.
-- Assumes nothing.
use Rattle.std.specs.Prelude.{if◌then◌else◌}
use mathlib.Core.Path.{◌≡◌, refl, sym, ap, ◌∙◌}
use mathlib.Core.Bool.{Bool, true, false, not, ◌&&◌, true≢false}
use mathlib.Core.Option.{Option, none}
use Prim.Native.Nat.{ℕ, zero, suc, ◌+◌, ◌-◌, ◌*◌, ◌/◌, ◌%◌, ◌^◌, ◌≤◌, ◌<◌, min}
use native.Mathlib.Nat.{div-le_self}
use native.Mathlib.Decide.{dec_lt}
use native.Mathlib.Omega.{arith}
use lib.Dec.{eqb}
use lib.Bits.{bit_and, bit_or, and_comm}
use Rattle.std.proofs.lemmas.Nat.{and-not}
use lib.Count.{count_trailing_zeros, under}
use lib.Pow.{pow-lt, shr-shr}
use borrow.Author.Tests.{eqb-true, eqb-false, eq-eqb, ne_eqb}
use Rattle.protocol.specs.Sets.{bit}
use Rattle.protocol.specs.Lists.{first_some, least, put}
use Rattle.protocol.proofs.Bits.{bit-and, bit-or, bit-pow, bit-zero, bit-set_of, bits-ext}
use Rattle.protocol.proofs.Numbered.{or_put}
use Rattle.views.proofs.Sets.{bit-shift, bit-far, set-without}
use Rattle.statements.specs.Sets.{PutBit, Common, Union, Except, Next}

-- ---- two sets

pub common-bits : (a b : ℕ) → Common a b (bit_and a b)
common-bits a b = record { bits = λ i. bit-and i a b }

pub union-bits : (a b : ℕ) → Union a b (bit_or a b)
union-bits a b = record { bits = λ i. bit-or i a b }

-- without what the other has
without : (a b : ℕ) → a < 18446744073709551616 → b < 18446744073709551616 → bit_and a (18446744073709551615 - b) ≡ a - bit_and a b
without a b l m =
    let e : bit_and (2 ^ 64 - 1 - b) a + bit_and b a ≡ a = and-not 64 b a m l in
    let c : bit_and b a ≡ bit_and a b = and_comm b a in
    let d : bit_and (2 ^ 64 - 1 - b) a ≡ bit_and a (18446744073709551615 - b) = and_comm (18446744073709551615 - b) a in
    omega arith

pub except-bits : (a b : ℕ) → a < 18446744073709551616 → b < 18446744073709551616 → Except a b (bit_and a (18446744073709551615 - b))
except-bits a b l m = rw (without a b l m) (record { bits = λ i. elim (dec_lt i 64) [ yes h ↦ near i h | no h ↦ far i (omega arith) ] })
  where
    near : (i : ℕ) → i < 64 → bit (a - bit_and a b) i ≡ (bit a i && not (bit b i))
    near i h = ap (λ x. bit x i) (set-without 64 a b l) ∙ bit-set_of 64 (λ k. bit a k && not (bit b k)) i h

    far : (i : ℕ) → 64 ≤ i → bit (a - bit_and a b) i ≡ (bit a i && not (bit b i))
    far i h = bit-far 64 (a - bit_and a b) i (omega arith) h ∙ sym (ap (λ x. x && not (bit b i)) (bit-far 64 a i l h))

-- ---- one notice more or less

-- put, where the test is known
pub put_as : {A : Type 0} (n : ℕ) (a : A) (f : ℕ → A) (i : ℕ) (b : Bool) → eqb i n ≡ b → put n a f i ≡ (if b then a else f i)
unfolding put
put_as n a f i b e = rw e

pub put_other : {A : Type 0} (n : ℕ) (a : A) (f : ℕ → A) (i : ℕ) → (i ≡ n → ⊥) → put n a f i ≡ f i
put_other n a f i d = put_as n a f i false (ne_eqb i n d)

eqb-sym : (m n : ℕ) (b : Bool) → eqb n m ≡ b → eqb m n ≡ b
eqb-sym m n true e = eq-eqb m n (sym (eqb-true n m e))
eqb-sym m n false e = ne_eqb m n (λ q. eqb-false n m e (sym q))

module _ (s j : ℕ) (yes : Bool) where
  -- a number past the last changes nothing
  pub bit_past : 64 ≤ j → PutBit s j yes s
  bit_past h = record { bits = λ i l. sym (put_other j yes (bit s) i (λ e. omega arith)) }

  module _ (h : j < 64) where
    power : (1 * 2 ^ j) % 18446744073709551616 ≡ 2 ^ j
    power = omega (arith, pow-lt h)

    pub bit_in : yes ≡ true → PutBit s j yes (bit_or s ((1 * 2 ^ j) % 18446744073709551616))
    bit_in e = rw (power, e) record { bits = λ i l. ap (λ f. f i) (or_put s j) }

    pub bit-out : s < 18446744073709551616 → yes ≡ false → PutBit s j yes (bit_and s (18446744073709551615 - (1 * 2 ^ j) % 18446744073709551616))
    bit-out l e = rw (power, e) record { bits = λ i q. go i (eqb i j) refl }
      where
        cut : (b c : Bool) → (b && not c) ≡ (if c then false else b)
        cut true true = refl
        cut true false = refl
        cut false true = refl
        cut false false = refl

        go : (i : ℕ) (c : Bool) → eqb i j ≡ c → bit (bit_and s (18446744073709551615 - 2 ^ j)) i ≡ put j false (bit s) i
        go i c q =
            let p : bit (2 ^ j) i ≡ c = bit-pow i j ∙ eqb-sym j i c q in
            (except-bits s (2 ^ j) l (omega (arith, pow-lt h))).bits i ∙ ap (λ b. bit s i && not b) p ∙ cut (bit s i) c ∙ sym (put_as j false (bit s) i c q)

-- two sets that have the same notices are one
pub same_set : (a b : ℕ) → a < 18446744073709551616 → b < 18446744073709551616 → ((i : ℕ) → i < 64 → bit a i ≡ bit b i) → a ≡ b
same_set a b l h e = bits-ext 64 a b l h e

-- ---- the least notice

-- bit i of a set without its first j notices
bit-rest : (j s i : ℕ) → bit (s / 2 ^ j) i ≡ bit s (j + i)
bit-rest j s i = sym (bit-shift i (s / 2 ^ j)) ∙ ap (λ x. eqb (x % 2) 1) (shr-shr s j i) ∙ bit-shift (j + i) s

abbrev Lowest : ℕ → ℕ → ℕ → Type 0
Lowest k n z = (z < k) × (bit n z ≡ true) × ((i : ℕ) → i < z → bit n i ≡ false)

lowest-even : (k n z : ℕ) → n % 2 ≡ 0 → Lowest k (n / 2) z → Lowest (suc k) n (suc z)
unfolding bit
lowest-even k n z e (l, h, low) = (omega arith, h, early)
  where
    early : (i : ℕ) → i < suc z → bit n i ≡ false
    early zero q = ap (λ x. eqb x 1) e
    early (suc i) q = low i (omega arith)

lowest-odd : (k n : ℕ) → n % 2 ≡ 1 → Lowest (suc k) n 0
unfolding bit
lowest-odd k n e = (omega arith, eq-eqb (n % 2) 1 e, λ i q. absurd (omega arith))

trailing : (k n : ℕ) → 0 < n → n < 2 ^ k → Lowest k n (count_trailing_zeros k n)
unfolding count_trailing_zeros
trailing zero n p h = absurd (omega arith)
trailing (suc k) n p h = go (n % 2) refl (λ a b. trailing k (n / 2) a b)
  where
    go : (d : ℕ) → n % 2 ≡ d → (0 < n / 2 → n / 2 < 2 ^ k → Lowest k (n / 2) (count_trailing_zeros k (n / 2))) → Lowest (suc k) n (under d (count_trailing_zeros k (n / 2)))
    go zero e rest = lowest-even k n (count_trailing_zeros k (n / 2)) e (rest (omega arith) (omega arith))
    go (suc d) e rest = lowest-odd k n (omega arith)

no_ones : count_trailing_zeros 64 0 ≡ 64
unfolding count_trailing_zeros
no_ones = refl

module _ (s j : ℕ) (l : s < 18446744073709551616) where
  next-none : s / 2 ^ j ≡ 0 → Next s j 64
  next-none e = record {
    most = omega arith;
    none = λ i a b. let q : i ≡ j + (i - j) = omega arith in ap (bit s) q ∙ sym (bit-rest j s (i - j)) ∙ ap (λ x. bit x (i - j)) e ∙ bit-zero (i - j);
    here = λ q. absurd (omega arith);
  }

  next-some : 0 < s / 2 ^ j → j < 64 → Next s j (j + count_trailing_zeros 64 (s / 2 ^ j))
  next-some p h = record { most = omega (arith, near); none = λ i a b. early i a (omega arith); here = λ q. (omega arith, found) }
    where
      z : ℕ
      z = count_trailing_zeros 64 (s / 2 ^ j)

      t : Lowest 64 (s / 2 ^ j) z
      t = trailing 64 (s / 2 ^ j) p (omega (arith, div-le_self s (2 ^ j)))

      found : bit s (j + z) ≡ true
      found = sym (bit-rest j s z) ∙ t.1

      near : j + z < 64
      near = elim (dec_lt (j + z) 64) [ yes q ↦ q | no q ↦ absurd (true≢false (sym found ∙ bit-far 64 s (j + z) l (omega arith))) ]

      early : (i : ℕ) → j ≤ i → i < j + z → bit s i ≡ false
      early i a b = let q : i ≡ j + (i - j) = omega arith in ap (bit s) q ∙ sym (bit-rest j s (i - j)) ∙ t.2 (i - j) (omega arith)

  pub next-least : j < 64 → Next s j (min (j + count_trailing_zeros 64 (s / 2 ^ j)) 64)
  next-least h = elim (dec_lt 0 (s / 2 ^ j)) [
    | yes p ↦ let n = next-some p h in let e : min (j + count_trailing_zeros 64 (s / 2 ^ j)) 64 ≡ j + count_trailing_zeros 64 (s / 2 ^ j) = omega (arith, n.most) in rw e n
    | no p ↦ let z : s / 2 ^ j ≡ 0 = omega arith in let e : min (j + count_trailing_zeros 64 (s / 2 ^ j)) 64 ≡ 64 = omega (arith, ap (count_trailing_zeros 64) z, no_ones) in rw e (next-none z)
  ]

-- none of the first n notices has a value
pub least-none : {A : Type 0} (n : ℕ) (f : ℕ → Option A) → ((i : ℕ) → i < n → f i ≡ none) → least n f ≡ none
unfolding least first_some
least-none zero f h = refl
least-none (suc n) f h = rw (least-none n f (λ i l. h i (omega arith)), h n (omega arith))
