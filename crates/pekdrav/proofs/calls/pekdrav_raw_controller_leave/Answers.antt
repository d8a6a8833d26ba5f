use Rattle.host.proofs.Hosting.{leave-hosted}
use Rattle.pekdrav.proofs.calls.pekdrav_raw_controller_leave.Goals as goal

pub returns : goal.returns
returns c = λ R. leave-hosted c.leave-called.result _ c.load-c.ensures c.finish.ensures R c.leave-called.ensures
