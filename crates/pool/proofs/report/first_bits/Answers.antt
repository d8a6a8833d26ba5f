use native.Mathlib.Omega.{arith}
use Rattle.pool.proofs.Reports.{first-all, first-few}
use Rattle.pool.proofs.report.first_bits.Goals as goal

pub returns-then-c-ge-NOTICES : goal.returns-then-c-ge-NOTICES
returns-then-c-ge-NOTICES c = first-all _ _ (omega arith) c.if-c-ge-NOTICES.true

pub returns : goal.returns
returns c = first-few _ _ (omega arith) (omega arith)
