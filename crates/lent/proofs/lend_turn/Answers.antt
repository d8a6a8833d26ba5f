use Rattle.engine.proofs.Keeps.{err-is}
use Rattle.lent.proofs.Refusals.{as-lent}
use Rattle.lent.proofs.lend_turn.Goals as goal

pub returns-in_err-answer : goal.returns-in_err-answer
returns-in_err-answer c = as-lent _ c.in_err-answer.ensures (err-is _ _ c.from_residual.ensures.1)
