use native.Mathlib.Omega.{arith}
use Rattle.bench.proofs.Answers.{no_room, known-room}
use Rattle.bench.proofs.lines.run_short.Goals as goal

pub returns-then-rows_length-rows : goal.returns-then-rows_length-rows
returns-then-rows_length-rows c = no_room _ _ _ c.rows_length.ensures (omega (arith, c.if-rows_length-rows.true))

pub returns : goal.returns
returns c = known-room _ _ _ _ _ c.rows_length.ensures (omega (arith, c.if-rows_length-rows.false)) c.run_rows.ensures
