use Rattle.bench.proofs.Runs.{refused-wrote}
use Rattle.bench.proofs.lines.put_refused.Goals as goal

pub returns : goal.returns
returns c = refused-wrote c.put_row_within.ensures
