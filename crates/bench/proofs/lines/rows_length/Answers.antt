use Rattle.bench.proofs.Answers.{wrote-long}
use Rattle.bench.proofs.lines.rows_length.Goals as goal

pub returns : goal.returns
returns c = wrote-long c.run_rows.ensures
