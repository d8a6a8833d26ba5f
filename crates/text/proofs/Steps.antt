-- One step of a scan at a position, for the readers' loops, and the lengths that `dec_len` counts.
-- Assumes nothing.
use Prim.Native.Nat.{ℕ, zero, suc, ◌+◌, ◌-◌, ◌*◌, ◌/◌, ◌^◌, ◌<◌, ◌≤◌}
use native.Mathlib.Nat.{lt_of_lt_of_le, pow-le-pow_right}
use native.Mathlib.Numerals.{add-one}
use native.Mathlib.Omega.{arith}
use mathlib.Core.Path.{◌≡◌, ap, ◌∙◌}
use mathlib.Core.Bool.{true, false}
use mathlib.Core.Logic.{⊎_elim}
use mathlib.Core.List.{List, ◌∷◌}
use lib.ListN.{length, drop, get_or, drop_of_length-le}
use lib.Seq.{drop-cons}
use borrow.Author.Tests.{lt-ltb, le-ltb, eq-eqb, ne_eqb}
use Rattle.std.specs.Prelude.{None}
use Rattle.std.specs.Char.{is_ascii_digit}
use Rattle.text.specs.Text.{dec_text}
use Rattle.text.specs.Scan.{found, hex_val, scan_dec, zero_then, dec_from, dec_at, scan_hex}
use Rattle.text.proofs.Bytes.{below?}
use Rattle.text.proofs.Decimal.{one-long, one-longer}
use Rattle.text.proofs.Hex.{hex-grow}

-- ---- digits
module _ (s : List ℕ) (i a : ℕ) where
  pub scan-end : length s ≤ i → scan_dec a i (drop i s) ≡ found a i
  unfolding scan_dec
  scan-end h = rw (drop_of_length-le s h)

  module _ (h : i < length s) where
    pub scan-stop : is_ascii_digit (get_or s i 0) ≡ false → scan_dec a i (drop i s) ≡ found a i
    unfolding scan_dec
    scan-stop p = rw (drop-cons s i 0 h) (rw p)

    module _ (p : is_ascii_digit (get_or s i 0) ≡ true) where
      pub scan-over : 18446744073709551616 ≤ a * 10 + (get_or s i 0 - 48) → scan_dec a i (drop i s) ≡ None
      unfolding scan_dec
      scan-over g = rw (drop-cons s i 0 h) (rw p (rw (le-ltb (a * 10 + (get_or s i 0 - 48)) 18446744073709551616 g)))

      pub scan-next : a * 10 + (get_or s i 0 - 48) < 18446744073709551616 → scan_dec a i (drop i s) ≡ scan_dec (a * 10 + (get_or s i 0 - 48)) (i + 1) (drop (i + 1) s)
      unfolding scan_dec
      scan-next l = rw (drop-cons s i 0 h) (rw p (rw (lt-ltb (a * 10 + (get_or s i 0 - 48)) 18446744073709551616 l) (rw (add-one i))))

-- ---- a number, by the byte that stands at the position
pub at-end : (s : List ℕ) (i : ℕ) → length s ≤ i → dec_at s i ≡ None
unfolding dec_at dec_from
at-end s i h = rw (drop_of_length-le s h)

module _ (s : List ℕ) (i : ℕ) (h : i < length s) where
  one_on : drop i s ≡ get_or s i 0 ∷ drop (i + 1) s
  one_on = rw (add-one i) (drop-cons s i 0 h)

  pub at_zero : get_or s i 0 ≡ 48 → dec_at s i ≡ zero_then (i + 1) (drop (i + 1) s)
  unfolding dec_at dec_from
  at_zero e = rw one_on (rw (eq-eqb (get_or s i 0) 48 e))

  pub at_other : (get_or s i 0 ≡ 48 → ⊥) → is_ascii_digit (get_or s i 0) ≡ false → dec_at s i ≡ None
  unfolding dec_at dec_from
  at_other ne p = rw one_on (rw (ne_eqb (get_or s i 0) 48 ne) (rw p))

  pub at-digit : (get_or s i 0 ≡ 48 → ⊥) → is_ascii_digit (get_or s i 0) ≡ true → dec_at s i ≡ scan_dec (get_or s i 0 - 48) (i + 1) (drop (i + 1) s)
  unfolding dec_at dec_from
  at-digit ne p = rw one_on (rw (ne_eqb (get_or s i 0) 48 ne) (rw p))

pub zero-end : (s : List ℕ) (i : ℕ) → length s ≤ i → zero_then i (drop i s) ≡ found 0 i
unfolding zero_then
zero-end s i h = rw (drop_of_length-le s h)

pub zero_more : (s : List ℕ) (i : ℕ) → i < length s → is_ascii_digit (get_or s i 0) ≡ true → zero_then i (drop i s) ≡ None
unfolding zero_then
zero_more s i h p = rw (drop-cons s i 0 h) (rw p)

pub zero-stop : (s : List ℕ) (i : ℕ) → i < length s → is_ascii_digit (get_or s i 0) ≡ false → zero_then i (drop i s) ≡ found 0 i
unfolding zero_then
zero-stop s i h p = rw (drop-cons s i 0 h) (rw p)

-- ---- hexadecimal digits
pub hex-end : (a i k : ℕ) (s : List ℕ) → k ≤ 0 → scan_hex k a i s ≡ found a i
unfolding scan_hex
hex-end a i k s h = let e : k ≡ 0 = omega arith in rw e

module _ (s : List ℕ) (i a : ℕ) where
  pub hex-short : (k : ℕ) → 0 < k → length s ≤ i → scan_hex k a i (drop i s) ≡ None
  unfolding scan_hex
  hex-short zero p h = absurd (omega arith)
  hex-short (suc k) p h = rw (drop_of_length-le s h)

  module _ (h : i < length s) where
    pub hex-stop : (k : ℕ) → 0 < k → 16 ≤ hex_val (get_or s i 0) → scan_hex k a i (drop i s) ≡ None
    unfolding scan_hex
    hex-stop zero q p = absurd (omega arith)
    hex-stop (suc k) q p = rw (drop-cons s i 0 h) (rw (le-ltb (hex_val (get_or s i 0)) 16 p))

    pub hex-go : (k : ℕ) → 0 < k → hex_val (get_or s i 0) < 16 → scan_hex k a i (drop i s) ≡ scan_hex (k - 1) (a * 16 + hex_val (get_or s i 0)) (i + 1) (drop (i + 1) s)
    unfolding scan_hex
    hex-go zero q p = absurd (omega arith)
    hex-go (suc k) q p = let e : suc k - 1 ≡ k = omega arith in rw (drop-cons s i 0 h) (rw (lt-ltb (hex_val (get_or s i 0)) 16 p) (rw (add-one i, e)))

-- fewer bytes than digits: wherever the scan stops, it refuses
pub hex-room : (k : ℕ) (s : List ℕ) (i a : ℕ) → length s - i < k → scan_hex k a i (drop i s) ≡ None
hex-room zero s i a h = absurd (omega arith)
hex-room (suc k) s i a h =
    ⊎_elim (λ l. ⊎_elim (λ d. let e : suc k - 1 ≡ k = omega arith in hex-go s i a l (suc k) (omega arith) d ∙ rw e (hex-room k s (i + 1) (a * 16 + hex_val (get_or s i 0)) (omega arith)))
    (λ g. hex-stop s i a l (suc k) (omega arith) g) (below? (hex_val (get_or s i 0)) 16))
    (λ g. hex-short s i a (suc k) (omega arith) g) (below? i (length s))

-- the value of fewer than 16 digits has room for one more
pub hex-small : (a k : ℕ) → a < 16 ^ k → k ≤ 15 → a < 1152921504606846976
hex-small a k h l = lt_of_lt_of_le h (pow-le-pow_right {n = 16} (omega arith) {i = k} {j = 15} l)

pub hex-more : (at i a d : ℕ) → a < 16 ^ (i - at) → d < 16 → at ≤ i → a * 16 + d < 16 ^ (i + 1 - at)
hex-more at i a d h l q = let e : i + 1 - at ≡ suc (i - at) = omega arith in rw e (hex-grow (i - at) a d h l)

-- ---- lengths
pub two-long : (n : ℕ) → 10 ≤ n → n < 100 → length (dec_text n) ≡ 2
two-long n g h = one-longer n g ∙ ap (λ (k : ℕ). k + 1) (one-long (n / 10) (omega arith))

pub three-long : (n : ℕ) → 100 ≤ n → n < 1000 → length (dec_text n) ≡ 3
three-long n g h = one-longer n (omega arith) ∙ ap (λ (k : ℕ). k + 1) (two-long (n / 10) (omega arith) (omega arith))

pub four-long : (n : ℕ) → 1000 ≤ n → n < 10000 → length (dec_text n) ≡ 4
four-long n g h = one-longer n (omega arith) ∙ ap (λ (k : ℕ). k + 1) (three-long (n / 10) (omega arith) (omega arith))

pub four-longer : (n : ℕ) → 10000 ≤ n → length (dec_text n) ≡ length (dec_text (n / 10000)) + 4
four-longer n g =
    let e : n / 10 / 10 / 10 / 10 ≡ n / 10000 = omega arith in
    omega (arith, one-longer n (omega arith), one-longer (n / 10) (omega arith), one-longer (n / 10 / 10) (omega arith), one-longer (n / 10 / 10 / 10) (omega arith), ap (λ (k : ℕ). length (dec_text k)) e)
