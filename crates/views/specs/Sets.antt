-- Sets of controllers in one word.
-- Assumes nothing.
use Rattle.std.specs.Prelude.{◌≡◌, Bool, ◌&&◌, ℕ, ◌<◌}
use Rattle.protocol.specs.Sets.{bit, set_of}
use Rattle.protocol.specs.View.{View, member}

-- r is the set of the controllers that have q.
pub record IsSet (r : ℕ) (q : ℕ → Bool) : Type 0 where
  pub small : r < 65536
  pub bits : (k : ℕ) → k < 16 → bit r k ≡ q k

-- r has the members of v that are in the set a.
pub record Among (v : View) (a r : ℕ) : Type 0 where
  pub is : (q : ℕ → Bool) → IsSet a q → r ≡ set_of 16 (λ k. member v k && q k)
