use Rattle.host.specs.Memory.{time_in}
use Rattle.host.proofs.held.put_times.Goals as goal

pub returns : goal.returns
unfolding time_in
returns c = c.put_words.ensures
