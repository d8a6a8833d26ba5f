use Rattle.schedule.proofs.Commands.{give-first, give-second, give-some}
use Rattle.schedule.proofs.line.read_give.Goals as goal

pub returns-in_err-k : goal.returns-in_err-k
returns-in_err-k c = rw c.from_residual.ensures (give-first c.args.line.now c.requires c.in_err-k.ensures)

pub returns-in_err-n : goal.returns-in_err-n
returns-in_err-n c = rw c.from_residual-in_err-n.ensures (give-second c.args.line.now c.requires c.in_ok-k.k c.in_ok-k.ensures c.in_err-n.ensures)

pub returns : goal.returns
returns c = give-some c.args.line.now c.requires c.in_ok-k.k c.in_ok-k.ensures _ c.in_ok-n.ensures
