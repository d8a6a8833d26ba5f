use Rattle.host.proofs.Hosting.{none_before, none_after}
use Rattle.host.proofs.add.unwritten.Goals as goal

pub returns-then-ready : goal.returns-then-ready
returns-then-ready c = none_after _ c.if-ready.true

pub returns-else-ready : goal.returns-else-ready
returns-else-ready c = none_before _ c.if-ready.false
