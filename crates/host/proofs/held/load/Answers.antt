use Rattle.host.specs.Memory.{send_in, time_in}
use Rattle.host.proofs.Loading.{loaded}
use Rattle.host.proofs.held.load.Goals as goal

pub returns : goal.returns
unfolding send_in time_in
returns c = loaded _ c.is_ready.ensures c.view_in.ensures c.notice_count.ensures c.senders_in.ensures c.entered_in.ensures c.notices_in.ensures c.words_from.ensures c.words_from-2.ensures
