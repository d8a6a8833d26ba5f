-- What a controller has of each notice: who sends it, and how it is bound.
-- Assumes nothing.
use Rattle.std.specs.Prelude.{List, ℕ, min, get_or}
use Rattle.protocol.specs.Lists.{list_of}
use Rattle.protocol.specs.Statement.{Binding}
use Rattle.statements.specs.declared.Binding.TheVariants.{Unbound}
use Rattle.statements.specs.Block.{binding_is}
use Rattle.evidence.specs.declared.Notice.{Notice}

-- The senders of the first n notices, in the memory S. A number of notices above 64 counts as 64.
unfoldable pub senders_of : List ℕ → ℕ → List ℕ
senders_of S n = list_of (min n 64) (λ i. get_or S i 0)

-- The binding of notice i in an array of notices. Past its end nothing is bound.
unfoldable pub binding_held : List Notice → ℕ → Binding
binding_held H i = binding_is (get_or H i (record { binding = Unbound })).binding
