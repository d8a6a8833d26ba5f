use mathlib.Core.Path.{◌≡◌}
use Prim.Native.Nat.{◌+◌, ◌*◌, ◌≤◌}
use Rattle.protocol.specs.Lists.{list_of}
use Rattle.pool.specs.Pool.{view_at}
use Rattle.votes.specs.Keys.{mix_from}
use Rattle.votes.proofs.keys.mixed.Given as goal

abbrev pub invariant-loop-p : goal.invariant-loop-p
invariant-loop-p l = (l.h + l.p ≤ l.p * 1152921504606846976) × (l.h ≡ mix_from 0 0 (list_of l.p (view_at l.words l.n)))
