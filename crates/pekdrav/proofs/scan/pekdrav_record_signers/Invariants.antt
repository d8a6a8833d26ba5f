use Rattle.protocol.specs.Evidence.{signs}
use Rattle.views.specs.Sets.{IsSet}
use Rattle.views.specs.View.{view_of}
use Rattle.pool.specs.Pool.{record_up_to}
use Rattle.pekdrav.specs.Scan.{is_at}
use Rattle.pekdrav.proofs.scan.pekdrav_record_signers.Given as goal

abbrev pub invariant-loop-i : goal.invariant-loop-i
invariant-loop-i l = IsSet l.seen (signs (is_at l.kind (view_of l.at)) (record_up_to l.words l.ids l.i))
