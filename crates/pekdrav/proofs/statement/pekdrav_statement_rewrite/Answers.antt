use Rattle.host.proofs.Written.{not-read, nothing, again}
use Rattle.pekdrav.proofs.statement.pekdrav_statement_rewrite.Goals as goal

pub returns-in-None : goal.returns-in-None
returns-in-None c = nothing _ _ _ (not-read _ _ _ c.in-None.ensures)

pub returns-in-Some : goal.returns-in-Some
returns-in-Some c = again _ _ _ _ c.in-Some.ensures _ _ _ c.write.ensures.0 c.write.ensures.1
