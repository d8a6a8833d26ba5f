use Prim.Native.Nat.{◌≤◌}
use Rattle.ranking.proofs.Slots as laws
use Rattle.ranking.proofs.candidates.list_slots.Given as goal

abbrev pub invariant-loop-k : goal.invariant-loop-k
invariant-loop-k l = (l.n ≤ 16) × laws.ListedTo l.slots l.out l.n l.k
