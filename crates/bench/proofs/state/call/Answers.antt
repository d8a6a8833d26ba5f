use Rattle.bench.proofs.Seats.{calls-join, calls-leave, calls-send, calls-turn}
use Rattle.bench.proofs.States.{last-call}
use Rattle.bench.proofs.state.call.Goals as goal

pub returns-in-Join : goal.returns-in-Join
returns-in-Join c = calls-join _ _ _ _ c.requires.0 c.in-Join.is c.join.ensures

pub returns-in-Leave : goal.returns-in-Leave
returns-in-Leave c = calls-leave _ _ _ _ c.requires.0 c.in-Leave.is c.leave.ensures

pub returns-in-Send : goal.returns-in-Send
returns-in-Send c = calls-send _ _ _ _ c.requires.0 c.in-Send.is c.send.ensures

pub returns-in_default : goal.returns-in_default
returns-in_default c = calls-turn _ _ _ _ c.requires.0 _ (last-call c.args.line c.in_default.not-Join c.in_default.not-Leave c.in_default.not-Send c.requires.1) c.minute_of.ensures c.lend_turn.ensures
