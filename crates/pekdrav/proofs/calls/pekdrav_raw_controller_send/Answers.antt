use Rattle.host.proofs.Hosting.{send-hosted}
use Rattle.pekdrav.proofs.calls.pekdrav_raw_controller_send.Goals as goal

pub returns : goal.returns
returns c = λ R. send-hosted c.send-called.result _ c.load-c.ensures c.finish.ensures R c.args.notice c.args.payload c.send-called.ensures
