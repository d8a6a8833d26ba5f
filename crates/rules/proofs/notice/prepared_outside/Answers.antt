use Rattle.rules.proofs.Notices.{outside-none, outside-some}
use Rattle.rules.proofs.notice.prepared_outside.Goals as goal

pub returns-then-is_none : goal.returns-then-is_none
returns-then-is_none c = outside-none _ _ _ _ _ c.least.result c.except.ensures c.least.ensures c.if-is_none.ensures

pub returns : goal.returns
returns c = outside-some _ _ _ _ _ c.prepared.ensures
