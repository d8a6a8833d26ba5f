use Rattle.engine.specs.Meaning.{setup_is}
use Rattle.host.proofs.Hosting.{setup-hosted}
use Rattle.pekdrav.proofs.calls.pekdrav_raw_controller_setup.Goals as goal

pub returns : goal.returns
returns c = setup-hosted c.setup-called.result _ c.load-c.ensures c.finish.ensures c.args.number (setup_is (record { members = c.args.members; notices = c.args.count; windows = c.args.many }) c.args.senders.now c.args.windows.now) c.setup-called.ensures
