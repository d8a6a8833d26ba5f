use native.Mathlib.Omega.{arith}
use Rattle.engine.proofs.Numbers.{told-first, told-next, told-all, binding-at}
use Rattle.engine.proofs.turn.tell_all.Goals as goal

pub loop-j-init : goal.loop-j-init
loop-j-init c = told-first _ _ _ _

pub loop-j-preserved : goal.loop-j-preserved
loop-j-preserved c = told-next _ c.loop-j.invariant c.tell_notice.ensures (omega arith) (binding-at _ _) _ (omega arith)

pub returns : goal.returns
returns c = told-all c.loop-j.invariant (omega arith)
