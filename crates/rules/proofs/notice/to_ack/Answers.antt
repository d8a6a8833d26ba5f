use Rattle.rules.proofs.Notices.{ack-bound, ack-barred, ack-outside, ack-first}
use Rattle.rules.proofs.notice.to_ack.Goals as goal

pub returns-in-Bound : goal.returns-in-Bound
returns-in-Bound c = ack-bound _ _ _ _ _ c.told_at.result c.told_at.ensures _ c.in-Bound.is

pub returns-in-Barred : goal.returns-in-Barred
returns-in-Barred c = ack-barred _ _ _ _ _ c.told_at.result c.told_at.ensures c.in-Barred.is

pub returns-then-has_member : goal.returns-then-has_member
returns-then-has_member c = ack-first _ _ _ _ _ c.told_at.result c.told_at.ensures c.in-Unbound.is _ c.has_member.ensures c.first_prepare.result c.if-has_member.true c.first_prepare.ensures

pub returns-else-has_member : goal.returns-else-has_member
returns-else-has_member c = ack-outside _ _ _ _ _ c.told_at.result c.told_at.ensures c.in-Unbound.is _ c.has_member.ensures c.if-has_member.false
