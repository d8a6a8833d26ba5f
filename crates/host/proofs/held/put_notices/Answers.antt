use Rattle.host.specs.Memory.{send_in}
use Rattle.host.proofs.Loading.{put_all}
use Rattle.host.proofs.held.put_notices.Goals as goal

pub returns : goal.returns
unfolding send_in
returns c = put_all c.put_senders.ensures c.put_words.ensures c.put_bindings.ensures
