use Rattle.schedule.proofs.Commands.{turn-first, turn-second, turn-some}
use Rattle.schedule.proofs.line.read_turn.Goals as goal

pub returns-in_err-k : goal.returns-in_err-k
returns-in_err-k c = rw c.from_residual.ensures (turn-first c.args.line.now c.requires c.in_err-k.ensures)

pub returns-in_err-minute : goal.returns-in_err-minute
returns-in_err-minute c = rw c.from_residual-in_err-minute.ensures (turn-second c.args.line.now c.requires c.in_ok-k.k c.in_ok-k.ensures c.in_err-minute.ensures)

pub returns : goal.returns
returns c = turn-some c.args.line.now c.requires c.in_ok-k.k c.in_ok-k.ensures _ c.in_ok-minute.ensures
