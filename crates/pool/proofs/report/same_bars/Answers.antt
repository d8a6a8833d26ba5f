use borrow.Author.Tests.{eqb-true}
use Rattle.pool.proofs.Reports.{bars-alike}
use Rattle.pool.proofs.report.same_bars.Goals as goal

pub returns-then-word-barred : goal.returns-then-word-barred
returns-then-word-barred c = λ q. bars-alike _ _ _ _ _ _ _ _ _ c.word.ensures c.word-3.ensures c.word-2.ensures c.bound.ensures c.barred.ensures c.stored.ensures c.if-word-barred.true (eqb-true _ _ q)
