use mathlib.Core.Path.{sym, ap}
use Rattle.bench.specs.Seats.{minute_in}
use Rattle.bench.proofs.States.{no-minute}
use Rattle.bench.proofs.state.minute_of.Goals as goal

pub returns-in_default : goal.returns-in_default
returns-in_default c = no-minute c.args.line c.in_default.not-Turn

pub returns : goal.returns
returns c = sym (ap minute_in c.in-Turn.is)
