use Rattle.statements.proofs.Fits.{read-refused, read_kept}
use Rattle.statements.proofs.read.Goals as goal

pub returns-in_err-st : goal.returns-in_err-st
returns-in_err-st c = rw c.from_residual.ensures (read-refused _ _ _ _ c.min.ensures c.in_err-st.ensures)

pub returns : goal.returns
returns c = rw c.then_some.ensures (read_kept _ _ _ _ c.min.ensures c.in_ok-st.st c.in_ok-st.ensures _ c.keeps_field_rules.ensures)
