use native.Mathlib.Omega.{arith}
use Rattle.bench.proofs.Answers.{large-room}
use Rattle.bench.proofs.lines.run.Goals as goal

pub returns : goal.returns
returns c = large-room _ _ _ _ (omega (arith, c.if-rows-lt-ROWS_MAX.false)) c.run_rows.ensures
