use native.Mathlib.Omega.{arith}
use mathlib.Core.Path.{refl}
use Rattle.host.specs.Memory.{sender_in}
use Rattle.host.proofs.Loading.{fill-first, fill-next, fill-last}
use Rattle.host.proofs.held.senders_in.Goals as goal

pub loop-j-init : goal.loop-j-init
loop-j-init c = fill-first _ 64 _

pub loop-j-preserved : goal.loop-j-preserved
unfolding sender_in
loop-j-preserved c = fill-next _ c.loop-j.invariant (omega arith) refl

pub returns : goal.returns
returns c = fill-last c.loop-j.invariant (omega arith)
