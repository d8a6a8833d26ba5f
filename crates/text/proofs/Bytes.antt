-- Digits and their bytes. Assumes nothing.
use Prim.Native.Nat.{ℕ, ◌+◌, ◌-◌, ◌<◌, ◌≤◌}
use native.Mathlib.Omega.{arith}
use mathlib.Core.Path.{◌≡◌, refl, ap, ◌∙◌}
use Rattle.std.specs.Prelude.{Option, None, Some}
use mathlib.Core.Bool.{Bool, true, false}
use mathlib.Core.Logic.{◌⊎◌, inl, inr, ⊎_elim}
use lib.Dec.{ltb}
use borrow.Author.Tests.{ltb-true, ltb-false, lt-ltb, le-ltb}
use Rattle.std.specs.Char.{is_ascii_digit}
use Rattle.text.specs.Text.{glyph}
use Rattle.text.specs.declared.Read.{Read}
use Rattle.text.specs.Scan.{found, hex_val, hex_digit}

-- ---- what was found is one value and one position
abbrev value_of : Option (Read ℕ) → ℕ
value_of None = 0
value_of (Some r) = r.value

abbrev next_of : Option (Read ℕ) → ℕ
next_of None = 0
next_of (Some r) = r.next

pub same_found : {a i v n : ℕ} → found a i ≡ found v n → (a ≡ v) × (i ≡ n)
same_found e = (ap value_of e, ap next_of e)

pub below? : (a b : ℕ) → (a < b) ⊎ (b ≤ a)
below? a b = go (ltb a b) refl
  where
    go : (t : Bool) → ltb a b ≡ t → (a < b) ⊎ (b ≤ a)
    go true e = inl (ltb-true a b e)
    go false e = inr (ltb-false a b e)

pub digit-is : (c : ℕ) → 48 ≤ c → c < 58 → is_ascii_digit c ≡ true
digit-is c l h = grind arith

pub digit-range : (c : ℕ) → is_ascii_digit c ≡ true → (48 ≤ c) × (c < 58)
digit-range c e = grind arith

pub digit-back : (c : ℕ) → (48 ≤ c) × (c < 58) → 48 + (c - 48) ≡ c
digit-back c h = omega arith

pub digit-less : (c : ℕ) → (48 ≤ c) × (c < 58) → c - 48 < 10
digit-less c h = omega arith

pub glyph-small : (d : ℕ) → d < 10 → glyph d ≡ 48 + d
glyph-small d h = simp (lt-ltb d 10 h)

-- ---- the value of a byte that may be a hexadecimal digit, by where it lies
pub val-1 : (c : ℕ) → c < 48 → hex_val c ≡ 16
val-1 c h = simp (lt-ltb c 48 h)

pub val-2 : (c : ℕ) → 48 ≤ c → c < 58 → hex_val c ≡ c - 48
val-2 c g h = simp (le-ltb c 48 g, lt-ltb c 58 h)

pub val-3 : (c : ℕ) → 58 ≤ c → c < 97 → hex_val c ≡ 16
val-3 c g h = let k : 48 ≤ c = omega arith in simp (le-ltb c 48 k, le-ltb c 58 g, lt-ltb c 97 h)

pub val-4 : (c : ℕ) → 97 ≤ c → c < 103 → hex_val c ≡ c - 87
val-4 c g h = let k : 48 ≤ c = omega arith in let l : 58 ≤ c = omega arith in simp (le-ltb c 48 k, le-ltb c 58 l, le-ltb c 97 g, lt-ltb c 103 h)

pub val-5 : (c : ℕ) → 103 ≤ c → hex_val c ≡ 16
val-5 c g = let k : 48 ≤ c = omega arith in let l : 58 ≤ c = omega arith in let m : 97 ≤ c = omega arith in simp (le-ltb c 48 k, le-ltb c 58 l, le-ltb c 97 m, le-ltb c 103 g)

-- the value of a digit's byte is the digit
pub val_of : (d : ℕ) → d < 16 → hex_val (glyph d) ≡ d
val_of d h =
    ⊎_elim (λ l. rw (lt-ltb d 10 l) (val-2 (48 + d) (omega arith) (omega arith) ∙ omega arith))
    (λ g. rw (le-ltb d 10 g) (val-4 (87 + d) (omega arith) (omega arith) ∙ omega arith)) (below? d 10)

-- a byte that has a value is the byte of that digit
pub byte_of : (c : ℕ) → hex_val c < 16 → glyph (hex_val c) ≡ c
byte_of c h =
    ⊎_elim (λ l. absurd (omega (arith, val-1 c l)))
    (λ g. ⊎_elim (λ l. rw (val-2 c g l) (glyph-small (c - 48) (omega arith) ∙ omega arith))
    (λ g2. ⊎_elim (λ l. absurd (omega (arith, val-3 c g2 l)))
    (λ g3. ⊎_elim (λ l. let k : 10 ≤ c - 87 = omega arith in rw (val-4 c g3 l) (rw (le-ltb (c - 87) 10 k) (omega arith)))
    (λ g4. absurd (omega (arith, val-5 c g4))) (below? c 103)) (below? c 97)) (below? c 58)) (below? c 48)

-- ---- whether a byte has a value
pub digit_none : (c : ℕ) → None ≡ hex_digit c → 16 ≤ hex_val c
digit_none c e = ⊎_elim (λ l. absurd (let z : ◌≡◌ {A = Option ℕ} None (Some (hex_val c)) = e ∙ rw (lt-ltb (hex_val c) 16 l) in let y : ◌≡◌ {A = ℕ} 0 1 = cc in omega arith)) (λ g. g) (below? (hex_val c) 16)

pub digit_some : (c d : ℕ) → Some d ≡ hex_digit c → (d ≡ hex_val c) × (d < 16)
digit_some c d e =
    ⊎_elim (λ l. let z : ◌≡◌ {A = Option ℕ} (Some d) (Some (hex_val c)) = e ∙ rw (lt-ltb (hex_val c) 16 l) in let y : d ≡ hex_val c = cc in (y, omega arith))
    (λ g. absurd (let z : ◌≡◌ {A = Option ℕ} (Some d) None = e ∙ rw (le-ltb (hex_val c) 16 g) in let y : ◌≡◌ {A = ℕ} 0 1 = cc in omega arith)) (below? (hex_val c) 16)
