use Prim.Native.Nat.{◌/◌, ◌%◌}
use Rattle.protocol.specs.Statement.{is_kind}
use Rattle.protocol.specs.Evidence.{signs}
use Rattle.views.specs.Sets.{IsSet}
use Rattle.pool.specs.Pool.{record_up_to}
use Rattle.votes.proofs.wish.wished_by.Given as goal

abbrev pub invariant-loop-s : goal.invariant-loop-s
invariant-loop-s l = IsSet (l.asked % 4294967296) (signs (is_kind 1) (record_up_to l.words l.ids l.s-index)) × IsSet (l.asked / 4294967296 % 4294967296) (signs (is_kind 2) (record_up_to l.words l.ids l.s-index))
