use Rattle.rules.proofs.Notices.{acks-due}
use Rattle.rules.proofs.notice.acks_due.Goals as goal

pub returns : goal.returns
returns c = acks-due _ _ _ _ _ _ c.word-bound.ensures c.word.ensures c.either-out.ensures c.either-both.ensures c.prepared_outside-prepared.ensures c.either.ensures c.except.ensures
