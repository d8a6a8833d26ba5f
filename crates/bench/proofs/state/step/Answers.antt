use Rattle.bench.proofs.States.{last-other, fit-lie, fit-setup, at-setup, at_give, at_all, at-lie}
use Rattle.bench.proofs.state.step.Goals as goal

pub set_up-requires : goal.set_up-requires
set_up-requires c = (c.requires.0.distinct, fit-setup c.requires.1 c.in-Setup.is)

pub lie_line-requires : goal.lie_line-requires
lie_line-requires c = (c.requires.0.distinct, fit-lie c.requires.1 (last-other c.args.line c.in_default.not-Setup c.in_default.not-Give c.in_default.not-All c.requires.2))

pub returns-in-Setup : goal.returns-in-Setup
returns-in-Setup c = at-setup c.args.text.now c.in-Setup.is c.set_up.ensures _ c.requires.0.whole

pub returns-in-Give : goal.returns-in-Give
returns-in-Give c = at_give _ _ c.args.text.now c.requires.0.distinct c.requires.1 c.in-Give.is c.give.ensures c.told.ensures

pub returns-in-All : goal.returns-in-All
returns-in-All c = at_all _ _ c.args.text.now c.requires.0.distinct c.requires.1 c.in-All.is c.all.ensures c.told-in-All.ensures

pub returns-in_default : goal.returns-in_default
returns-in_default c = at-lie c.args.text.now (last-other c.args.line c.in_default.not-Setup c.in_default.not-Give c.in_default.not-All c.requires.2) c.lie_line.ensures _ _ _ c.requires.0.whole
