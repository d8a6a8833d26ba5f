use mathlib.Core.Path.{subst}
use Rattle.statements.specs.Promise.{ReadOf}
use Rattle.schedule.proofs.Lies.{not-lie, lie-told}
use Rattle.schedule.proofs.line.lied.Goals as goal

pub returns-in_err-text : goal.returns-in_err-text
returns-in_err-text c = rw c.from_residual.ensures (not-lie c.args.line.now _ _ c.in_err-text.ensures.cases)

pub returns : goal.returns
returns c = lie-told c.args.line.now _ _ c.in_ok-text.ensures.cases.0 _ (subst (λ l. ReadOf l c.args.notices c.read.new.block c.read.result) c.in_ok-text.ensures.cases.1 c.read.ensures)
