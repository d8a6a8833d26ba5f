use Rattle.host.proofs.Hosting.{fresh}
use Rattle.pekdrav.proofs.calls.pekdrav_raw_controller_init.Goals as goal

pub returns : goal.returns
returns c = fresh _ _ _ c.new-c.ensures c.store.ensures c.record_clear.ensures.len
