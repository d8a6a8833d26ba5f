use Rattle.host.proofs.Written.{not-read}
use Rattle.pekdrav.proofs.Placing.{stayed, went-in}
use Rattle.pekdrav.proofs.pooled.pekdrav_pool_append.Goals as goal

pub returns-in_default : goal.returns-in_default
returns-in_default c = stayed _ _ _ (not-read _ _ _ c.in_default.ensures)

pub returns : goal.returns
returns c = went-in _ _ _ _ c.in-Some.ensures _ _ _ c.append.ensures _ c.unwrap_or.ensures
