-- What is promised of a turn on a controller that is lent.
-- Assumes nothing.
use Rattle.std.specs.Prelude.{List, ℕ, Result}
use Rattle.protocol.specs.Pool.{has_room}
use Rattle.protocol.specs.Turn.{turn as turn_of}
use Rattle.engine.specs.declared.Controller.{Controller}
use Rattle.engine.specs.declared.Answer.{Answer}
use Rattle.engine.specs.declared.Refusal.{Refusal}
use Rattle.pool.specs.Pool.{record_in, pool_of}
use Rattle.engine.specs.Meaning.{controller_is}
use Rattle.engine.specs.Promise.{Turns}

-- A turn of c at a minute over the pool W and the record R answered a and left d, W' and R'.
abbrev pub TurnedTo : List ℕ → List ℕ → Controller → ℕ → Result Answer Refusal → Controller → List ℕ → List ℕ → Type 0
TurnedTo W R c minute a d W' R' = Turns W R c (turn_of (controller_is c) (record_in W R) (has_room (pool_of W)) minute) (record { answer = a; controller = d }) W' R'
