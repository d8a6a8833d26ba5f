use Rattle.engine.proofs.Requests.{first_one, first-none}
use Rattle.engine.proofs.start.entered_first.Goals as goal

pub returns-then-has_member : goal.returns-then-has_member
returns-then-has_member c = first_one _ _ _ _ _ c.has_member.ensures c.if-has_member.true c.new-none.ensures.0 c.push.ensures.0

pub returns-else-has_member : goal.returns-else-has_member
returns-else-has_member c = first-none _ _ _ _ c.has_member.ensures c.if-has_member.false c.new-none.ensures.0
