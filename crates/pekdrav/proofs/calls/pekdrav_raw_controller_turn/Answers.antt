use Rattle.host.proofs.Hosting.{turn-hosted}
use Rattle.pekdrav.proofs.calls.pekdrav_raw_controller_turn.Goals as goal

pub returns : goal.returns
returns c = turn-hosted c.turn_in-called.result _ c.load-c.ensures c.finish.ensures c.args.minute c.turn_in-called.ensures
