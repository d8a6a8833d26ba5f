-- How a number and a set are written. A text is the list of its bytes' numbers.
-- Assumes nothing.
use Rattle.std.specs.Prelude.{ℕ, zero, suc, ◌+◌, ◌/◌, ◌%◌, cond, List, [], ◌∷◌, ◌++◌, ltb}

-- The ASCII code of a digit below 16: `0` to `9`, then `a` to `f`.
abbrev pub glyph : ℕ → ℕ
glyph d = cond (ltb d 10) (48 + d) (87 + d)

-- The digits of n, the most significant first. Each step takes the last digit off, so n steps are enough.
unfoldable pub digits : ℕ → ℕ → List ℕ
digits zero n = glyph n ∷ []
digits (suc steps) n = cond (ltb n 10) (glyph n ∷ []) (digits steps (n / 10) ++ (glyph (n % 10) ∷ []))

-- A number: decimal, with no leading zero.
unfoldable pub dec_text : ℕ → List ℕ
dec_text n = digits n n

-- A set: the last k hexadecimal digits of n.
unfoldable pub hex_text : ℕ → ℕ → List ℕ
hex_text zero n = []
hex_text (suc k) n = hex_text k (n / 16) ++ (glyph (n % 16) ∷ [])
