use Rattle.engine.proofs.Keeps.{err-is, kept-none, kept_at}
use Rattle.engine.proofs.keep.keep.Goals as goal

pub returns-in_err-n : goal.returns-in_err-n
returns-in_err-n c = kept-none c.place.ensures c.in_err-n.was (err-is _ _ c.from_residual.ensures.1)

pub returns : goal.returns
returns c = kept_at c.place.ensures c.in_ok-n.was c.record_push.ensures
