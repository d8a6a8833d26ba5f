use Rattle.rules.proofs.Notices.{leave-may}
use Rattle.rules.proofs.requests.may_leave.Goals as goal

pub returns : goal.returns
returns c = leave-may _ _ _ _ _ c.notices-prepared.ensures c.either-due.ensures c.except-waiting.ensures c.least.result _ c.least.ensures c.is_none.ensures
