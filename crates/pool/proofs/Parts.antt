-- Laws of the head of a statement: its five parts come back from the one word.
-- Assumes nothing.
use mathlib.Core.Path.{◌≡◌}
use Prim.Native.Nat.{ℕ, ◌+◌, ◌*◌, ◌/◌, ◌%◌, ◌≤◌, ◌<◌, min}
use native.Mathlib.Omega.{arith}
use lib.ListN.{length}
use Rattle.protocol.specs.Statement.{Stmt}
use Rattle.pool.specs.Steps.{IsHead}
use Rattle.pool.specs.Changes.{head_by, head_of, head_word}

-- the low 24 bits of a word are its kind, origin and notice
pub low_parts : (w : ℕ) → w % 16777216 ≡ head_by (w % 256) (w / 256 % 256) (w / 65536 % 256)
low_parts w = omega arith

-- ---- the five parts in one word

abbrev packed : ℕ → ℕ → ℕ → ℕ
packed x c g = x + c * 16777216 + g * 4294967296

-- the head of a statement, by its parts
pub head-word-is : (s : Stmt) (x c g : ℕ) → x ≡ head_of s → c ≡ min (length s.views) 16 → g ≡ min (length s.groups) 64 → packed x c g ≡ head_word s
unfolding head_word
head-word-is s x c g ex ec eg i = packed (ex i) (ec i) (eg i)

pub head-back : (s : Stmt) (x c g : ℕ) → x ≡ head_of s → s.kind < 256 → s.origin < 256 → s.notice < 256 → c ≤ 16 → g ≤ 64 → IsHead (packed x c g) s c g
unfolding head_of
head-back s x c g e lk lo ln lc lg = record {
  kind = omega arith;
  origin = omega arith;
  notice = omega arith;
  count = omega arith;
  groups = omega arith;
}
