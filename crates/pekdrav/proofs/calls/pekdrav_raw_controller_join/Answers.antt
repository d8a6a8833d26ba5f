use Rattle.host.proofs.Hosting.{join-hosted}
use Rattle.pekdrav.proofs.calls.pekdrav_raw_controller_join.Goals as goal

pub returns : goal.returns
returns c = λ R. join-hosted c.join-called.result _ c.load-c.ensures c.finish.ensures R c.join-called.ensures
