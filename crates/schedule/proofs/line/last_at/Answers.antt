use Rattle.schedule.proofs.Fields.{last-refused, last_more, last-whole}
use Rattle.schedule.proofs.line.last_at.Goals as goal

pub returns-in_err-number : goal.returns-in_err-number
returns-in_err-number c = rw c.from_residual.ensures (last-refused c.args.line.now c.args.at _ c.in_err-number.ensures)

pub returns-then-number-line : goal.returns-then-number-line
returns-then-number-line c = last_more c.args.line.now c.args.at _ c.in_ok-number.number c.in_ok-number.ensures c.if-number-line.true

pub returns : goal.returns
returns c = last-whole c.args.line.now c.args.at _ c.in_ok-number.number c.in_ok-number.ensures c.if-number-line.false
