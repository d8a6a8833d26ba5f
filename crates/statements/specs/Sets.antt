-- Sets of notices in one word: bit j stands for notice j.
-- Assumes nothing.
use Rattle.std.specs.Prelude.{◌≡◌, Bool, true, false, not, ◌&&◌, ◌||◌, ℕ, ◌≤◌, ◌<◌}
use Rattle.protocol.specs.Sets.{bit}
use Rattle.protocol.specs.Lists.{put}

-- r is the set, with j in it if yes is true and without it otherwise. There is no notice from 64 on.
pub record PutBit (set j : ℕ) (yes : Bool) (r : ℕ) : Type 0 where
  pub bits : (i : ℕ) → i < 64 → bit r i ≡ put j yes (bit set) i

-- r has what both have; what either has; what a has and b has not.

pub record Common (a b r : ℕ) : Type 0 where
  pub bits : (i : ℕ) → bit r i ≡ (bit a i && bit b i)

pub record Union (a b r : ℕ) : Type 0 where
  pub bits : (i : ℕ) → bit r i ≡ (bit a i || bit b i)

pub record Except (a b r : ℕ) : Type 0 where
  pub bits : (i : ℕ) → bit r i ≡ (bit a i && not (bit b i))

-- r is the least notice of the set from j on, or 64 where there is none.
pub record Next (set j r : ℕ) : Type 0 where
  pub most : r ≤ 64
  pub none : (i : ℕ) → j ≤ i → i < r → bit set i ≡ false
  pub here : r < 64 → (j ≤ r) × (bit set r ≡ true)
