use Prim.Native.Nat.{◌+◌, ◌*◌, ◌≤◌}
use Rattle.text.specs.Written.{Wrote}
use Rattle.pool.specs.Pool.{record_in}
use Rattle.service.specs.Service.{lines_below}
use Rattle.service.specs.ServiceParts.{held_line}
use Rattle.service.proofs.notices.put_notices.Given as goal

abbrev pub invariant-loop-j : goal.invariant-loop-j
invariant-loop-j l = (l.at ≤ l.from + 222 * l.j) × Wrote l.initial.out l.from (lines_below l.j (held_line l.init (record_in l.words l.ids) l.e l.certs l.held l.delivered)) l.at l.out
