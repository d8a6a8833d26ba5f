use mathlib.Core.Path.{◌≡◌}
use mathlib.Core.Bool.{true}
use Prim.Native.Nat.{◌-◌, ◌<◌}
use Rattle.protocol.specs.Sets.{bit}
use Rattle.host.proofs.Loading.{Visits}
use Rattle.pekdrav.proofs.Told.{payload_in}
use Rattle.pekdrav.proofs.shown.payloads_of.Given as goal

abbrev pub invariant-loop-j : goal.invariant-loop-j
invariant-loop-j l = (l.j < 64 → bit l.certified l.j ≡ true) × Visits 0 (payload_in l.certified l.certs) l.payloads l.j

abbrev pub decreases-loop-j : goal.decreases-loop-j
decreases-loop-j l = 64 - l.j
