-- What the functions of sets tell each other.
-- Assumes nothing.
use Rattle.std.specs.Prelude.{◌≡◌, Bool, ◌&&◌, ◌||◌, ℕ, ◌<◌, eqb}
use Rattle.std.specs.Int.Bits.{bit_or}
use Rattle.protocol.specs.Sets.{bit}

-- r is `seen`, and o too where `yes` is true.
pub record Noted (seen : ℕ) (yes : Bool) (o r : ℕ) : Type 0 where
  pub small : seen < 65536 → r < 65536
  pub bits : (k : ℕ) → k < 16 → bit r k ≡ (bit seen k || (yes && eqb o k))

-- r has what a has and what b has.
pub record Joined (a b r : ℕ) : Type 0 where
  pub is : r ≡ bit_or a b
  pub small : a < 65536 → b < 65536 → r < 65536
