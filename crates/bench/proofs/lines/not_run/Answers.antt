use Rattle.bench.proofs.Ends.{not-run-left}
use Rattle.bench.proofs.lines.not_run.Goals as goal

pub returns : goal.returns
returns c = not-run-left 513 c.put_refused-out.ensures c.new-c.ensures c.end_of.ensures
