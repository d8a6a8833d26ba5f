use borrow.Author.Tests.{not-true, not-false}
use Rattle.bench.proofs.States.{no-statement-early, no-statement-bad}
use Rattle.bench.proofs.state.no_statement.Goals as goal

pub returns-then-not-g : goal.returns-then-not-g
returns-then-not-g c = no-statement-early _ _ c.refused.ensures (not-true _ c.if-not-g.true)

pub returns : goal.returns
returns c = no-statement-bad _ _ c.refused-2.ensures (not-false _ c.if-not-g.false)
