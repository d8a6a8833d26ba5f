use Prim.Native.Nat.{◌+◌, ◌*◌, ◌≤◌}
use Rattle.text.specs.Written.{Wrote}
use Rattle.pool.specs.Pool.{record_in}
use Rattle.views.specs.View.{view_of, views_of}
use Rattle.evidence.specs.Evidence.{ring_is}
use Rattle.evidence.specs.Notices.{senders_of}
use Rattle.service.specs.ServiceParts.{lines_for}
use Rattle.service.proofs.waits.put_lines.Given as goal

abbrev pub invariant-loop-u : goal.invariant-loop-u
invariant-loop-u l = (l.at ≤ l.from + 107 * l.u-index) × Wrote l.initial.out l.from (lines_for (ring_is l.ring) (senders_of l.senders l.ring.notices) (record_in l.words l.ids) (view_of l.t) (views_of l.list l.u-index)) l.at l.out
