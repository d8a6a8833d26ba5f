use Prim.Native.Nat.{◌+◌, ◌*◌, ◌≤◌}
use Rattle.protocol.specs.Sets.{bit}
use Rattle.text.specs.Written.{Wrote}
use Rattle.service.specs.Service.{numbers_below}
use Rattle.service.proofs.sets.put_controllers.Given as goal

abbrev pub invariant-loop-k : goal.invariant-loop-k
invariant-loop-k l = (l.at ≤ l.from + 3 * l.k) × Wrote l.initial.out l.from (numbers_below l.k (bit l.set)) l.at l.out
