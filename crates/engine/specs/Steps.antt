-- What the functions of a setup, an addition and a turn tell each other.
-- Assumes nothing.
use Rattle.std.specs.Prelude.{◌≡◌, ◌⊎◌, Bool, true, false, List, ℕ, ◌≤◌, ◌<◌, ltb, Result, Ok, Err}
use Rattle.protocol.specs.Lists.{all}
use Rattle.protocol.specs.View.{controllers}
use Rattle.protocol.specs.Statement.{Stmt}
use Rattle.protocol.specs.Call.{is_full}
use Rattle.protocol.specs.Pool.{number_of, has_room}
use Rattle.pool.specs.declared.Full.{Full}
use Rattle.pool.specs.Pool.{stmt_at, pool_len, pool_of, record_len, record_in, Grows}
use Rattle.pool.specs.Changes.{PushedTo, no_room}
use Rattle.engine.specs.declared.Answer.{Answer}
use Rattle.engine.specs.declared.Answer.TheVariants.{Left, Quiet}
use Rattle.engine.specs.Promise.{Pooled}

-- Each of the senders is the number of a controller.
unfoldable pub are_numbers : List ℕ → Bool
are_numbers = all (λ k. ltb k controllers)

-- Statement n of the pool W' is s, the pool is W with s, and it had room for s, as has the record R.
pub record PlacedAs (W R : List ℕ) (s : Stmt) (n : ℕ) (W' : List ℕ) : Type 0 where
  pub short : record_len R < 512
  pub room : has_room (pool_of W) s ≡ true
  pub number : n ≡ number_of s (pool_of W)
  pub is : stmt_at W' n ≡ s
  pub pool : Pooled s W W'
  pub grows : Grows W W'
  pub within : n < pool_len W'

-- s went into the pool W under the number that r tells; or the record R, or the pool, had no room, and nothing changed.
pub record PlacedFor (W R : List ℕ) (s : Stmt) (r : Result ℕ Full) (W' : List ℕ) : Type 0 where
  pub full : r ≡ Err no_room → ((512 ≤ record_len R) ⊎ (has_room (pool_of W) s ≡ false)) × (W' ≡ W)
  pub at : (n : ℕ) → r ≡ Ok n → PlacedAs W R s n W'

-- And its number went to the end of the record R.
pub record KeptFor (W R : List ℕ) (s : Stmt) (r : Result ℕ Full) (W' R' : List ℕ) : Type 0 where
  pub full : r ≡ Err no_room → (is_full (has_room (pool_of W)) (record_in W R) s ≡ true) × (W' ≡ W) × (R' ≡ R)
  pub at : (n : ℕ) → r ≡ Ok n → PlacedAs W R s n W' × PushedTo R n R'

-- What a controller answers that has nothing to do.
abbrev pub rest_is : Bool → Answer
rest_is true = Left
rest_is false = Quiet
