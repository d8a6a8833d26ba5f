use Rattle.schedule.proofs.Commands.{send-first, send-second, send-third, send-some}
use Rattle.schedule.proofs.line.read_send.Goals as goal

pub returns-in_err-k : goal.returns-in_err-k
returns-in_err-k c = rw c.from_residual.ensures (send-first c.args.line.now c.requires c.in_err-k.ensures)

pub returns-in_err-notice : goal.returns-in_err-notice
returns-in_err-notice c = rw c.from_residual-in_err-notice.ensures (send-second c.args.line.now c.requires c.in_ok-k.k c.in_ok-k.ensures c.in_err-notice.ensures)

pub returns-in_err-payload : goal.returns-in_err-payload
returns-in_err-payload c = rw c.from_residual-in_err-payload.ensures (send-third c.args.line.now c.requires c.in_ok-k.k c.in_ok-k.ensures c.in_ok-notice.notice c.in_ok-notice.ensures c.in_err-payload.ensures)

pub returns : goal.returns
returns c = send-some c.args.line.now c.requires c.in_ok-k.k c.in_ok-k.ensures c.in_ok-notice.notice c.in_ok-notice.ensures _ c.in_ok-payload.ensures
