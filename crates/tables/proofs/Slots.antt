-- The sum of a slot fits a word.
-- Assumes nothing.
use Prim.Native.Nat.{ℕ, ◌+◌, ◌*◌, ◌/◌, ◌%◌, ◌<◌}
use native.Mathlib.Omega.{arith}

parts-fit : (a b : ℕ) → a < 4294967296 → b < 4294967296 → a * 2654435769 + b * 668265263 < 18446744073709551616
parts-fit a b p q = omega arith

pub slot-fits : (w : ℕ) → w < 18446744073709551616 → w % 4294967296 * 2654435769 + w / 4294967296 * 668265263 < 18446744073709551616
slot-fits w l = parts-fit (w % 4294967296) (w / 4294967296) (omega arith) (omega arith)
