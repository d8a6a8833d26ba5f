use Rattle.schedule.proofs.Windows.{window-first, window-second, window-third, window-one}
use Rattle.schedule.proofs.line.window_at.Goals as goal

pub returns-in_err-weekday : goal.returns-in_err-weekday
returns-in_err-weekday c = rw c.from_residual.ensures (window-first c.args.line.now c.args.at c.in_err-weekday.ensures)

pub returns-in_err-first : goal.returns-in_err-first
returns-in_err-first c = rw c.from_residual-in_err-first.ensures (window-second c.args.line.now c.args.at c.in_ok-weekday.weekday c.in_ok-weekday.ensures c.in_err-first.ensures)

pub returns-in_err-end : goal.returns-in_err-end
returns-in_err-end c = rw c.from_residual-in_err-end.ensures (window-third c.args.line.now c.args.at c.in_ok-weekday.weekday c.in_ok-weekday.ensures c.in_ok-first.first c.in_ok-first.ensures c.in_err-end.ensures)

pub returns : goal.returns
returns c = window-one c.args.line.now c.args.at c.in_ok-weekday.weekday c.in_ok-weekday.ensures c.in_ok-first.first c.in_ok-first.ensures c.in_ok-end.end c.in_ok-end.ensures _ c.word_of.ensures
