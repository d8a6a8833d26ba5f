use native.Mathlib.Omega.{arith}
use mathlib.Core.Path.{refl}
use Rattle.host.proofs.Loading.{fill-first, fill-next, entered_all}
use Rattle.host.proofs.held.entered_in.Goals as goal

pub loop-i-init : goal.loop-i-init
loop-i-init c = fill-first _ 16 _

pub loop-i-preserved : goal.loop-i-preserved
loop-i-preserved c = fill-next _ c.loop-i.invariant (omega arith) c.view_in.ensures

pub returns : goal.returns
returns c = entered_all _ c.loop-i.invariant (omega arith) _ refl
