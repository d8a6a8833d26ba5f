use native.Mathlib.Omega.{arith}
use Rattle.evidence.proofs.Senders as laws
use Rattle.evidence.proofs.binding.told_count.Goals as goal

pub returns-then-kind : goal.returns-then-kind
returns-then-kind c = (laws.count-report _ _ _ c.kind.ensures.0 _ c.if-kind.true c.groups.ensures.0, c.groups.ensures.1)

pub returns-else-kind : goal.returns-else-kind
returns-else-kind c = (laws.count-plain _ _ _ c.kind.ensures.0 c.if-kind.false, omega arith)
