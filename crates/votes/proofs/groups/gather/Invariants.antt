use Prim.Native.Nat.{◌/◌, ◌%◌}
use Rattle.protocol.specs.Statement.{is_kind}
use Rattle.protocol.specs.Evidence.{signs}
use Rattle.views.specs.Sets.{IsSet}
use Rattle.pool.specs.Pool.{record_up_to}
use Rattle.votes.specs.Keys.{Sofar}
use Rattle.votes.proofs.groups.gather.Given as goal

abbrev pub invariant-loop-i : goal.invariant-loop-i
invariant-loop-i l =
    Sofar l.words l.ids l.i l.keys l.rows l.groups l.n × IsSet (l.asked % 4294967296) (signs (is_kind 1) (record_up_to l.words l.ids l.i)) × IsSet (l.asked / 4294967296 % 4294967296) (signs (is_kind 2) (record_up_to l.words l.ids l.i))
