-- What reading a number or a set at a position of a text finds: its value and the next position, or a refusal.
-- The laws that these are right stand in proofs/Laws.antt.
-- Assumes nothing.
use Rattle.std.specs.Prelude.{ℕ, zero, suc, ◌+◌, ◌-◌, ◌*◌, ◌≡◌, Bool, false, cond, List, [], ◌∷◌, Option, Some, None, ltb, eqb, drop, get_or}
use Rattle.std.specs.Char.{is_ascii_digit}
use Rattle.text.specs.declared.Read.{Read}

-- A value that was read, and the position after it.
abbrev pub read : {A : Type 0} → A → ℕ → Read A
read v n = record { value = v; next = n }

-- It was read.
abbrev pub found : {A : Type 0} → A → ℕ → Option (Read A)
found v n = Some (read v n)

-- What can follow a number: no digit.
abbrev pub Stops : List ℕ → Type 0
Stops [] = Unit {0}
Stops (c ∷ s) = is_ascii_digit c ≡ false

-- The value of a hexadecimal digit; 16 for any other byte.
abbrev pub hex_val : ℕ → ℕ
hex_val c = cond (ltb c 48) 16 (cond (ltb c 58) (c - 48) (cond (ltb c 97) 16 (cond (ltb c 103) (c - 87) 16)))

-- The same of a byte that has one.
abbrev pub hex_digit : ℕ → Option ℕ
hex_digit c = cond (ltb (hex_val c) 16) (Some (hex_val c)) None

-- The digits at the start of the list go on with acc, which stands before the position i.
unfoldable pub scan_dec : ℕ → ℕ → List ℕ → Option (Read ℕ)
scan_dec acc i [] = found acc i
scan_dec acc i (c ∷ s) =
    cond (is_ascii_digit c) (cond (ltb (acc * 10 + (c - 48)) 18446744073709551616) (scan_dec (acc * 10 + (c - 48)) (i + 1) s) None)
    (found acc i)

-- After a leading 0 no digit may follow.
unfoldable pub zero_then : ℕ → List ℕ → Option (Read ℕ)
zero_then i [] = found 0 i
zero_then i (c ∷ s) = cond (is_ascii_digit c) None (found 0 i)

unfoldable pub dec_from : ℕ → List ℕ → Option (Read ℕ)
dec_from i [] = None
dec_from i (c ∷ s) = cond (eqb c 48) (zero_then (i + 1) s) (cond (is_ascii_digit c) (scan_dec (c - 48) (i + 1) s) None)

unfoldable pub dec_at : List ℕ → ℕ → Option (Read ℕ)
dec_at s at = dec_from at (drop at s)

-- k digits more go on with acc.
unfoldable pub scan_hex : ℕ → ℕ → ℕ → List ℕ → Option (Read ℕ)
scan_hex zero acc i s = found acc i
scan_hex (suc k) acc i [] = None
scan_hex (suc k) acc i (c ∷ s) = cond (ltb (hex_val c) 16) (scan_hex k (acc * 16 + hex_val c) (i + 1) s) None

unfoldable pub hex_at : List ℕ → ℕ → ℕ → Option (Read ℕ)
hex_at s at k = scan_hex k 0 at (drop at s)

abbrev pub is_comma : List ℕ → ℕ → Bool
is_comma s n = eqb (get_or s n 0) 44
