use Prim.Native.Nat.{◌-◌}
use Rattle.host.specs.Memory.{notice_in}
use Rattle.host.proofs.Loading.{Visits, held_notice}
use Rattle.host.proofs.held.notices_in.Given as goal

abbrev pub invariant-loop-j : goal.invariant-loop-j
invariant-loop-j l = Visits held_notice (notice_in l.fields) l.notices l.j

abbrev pub decreases-loop-j : goal.decreases-loop-j
decreases-loop-j l = 64 - l.j
