use Prim.Native.Nat.{ℕ}
use Rattle.tables.proofs.Searches.{rows_to}
use Rattle.votes.specs.Keys.{Grouped}
use Rattle.votes.proofs.Searches.{Searched}
use Rattle.votes.proofs.groups.find.Given as goal

abbrev pub invariant-loop-at : goal.invariant-loop-at
invariant-loop-at l = (n : ℕ) → Grouped l.words l.ids l.keys l.rows l.groups n → Searched l.words l.ids l.keys l.groups n l.v l.at

abbrev pub decreases-loop-at : goal.decreases-loop-at
decreases-loop-at l = rows_to l.at
