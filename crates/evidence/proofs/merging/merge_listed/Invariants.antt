use mathlib.Core.Path.{◌≡◌}
use Rattle.protocol.specs.Turn.{merge_all}
use Rattle.pool.specs.Pool.{record_up_to, record_in}
use Rattle.statements.specs.Block.{binding_is}
use Rattle.evidence.proofs.merging.merge_listed.Given as goal

abbrev pub invariant-loop-i : goal.invariant-loop-i
invariant-loop-i l = (merge_all l.j (binding_is l.initial.b) (record_in l.words l.listed) ≡ merge_all l.j (binding_is l.b) (record_up_to l.words l.listed l.i))
