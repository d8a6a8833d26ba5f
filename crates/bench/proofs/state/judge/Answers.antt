use borrow.Author.Tests.{not-true, not-false}
use Rattle.bench.proofs.Verdicts.{judged-early, judged-join, judged-leave, judged-send, judged-turn}
use Rattle.bench.proofs.States.{last-call}
use Rattle.bench.proofs.state.judge.Goals as goal

pub returns-then-not-c : goal.returns-then-not-c
returns-then-not-c c = judged-early c.args.c c.args.line c.args.turn c.requires (not-true _ c.if-not-c.true) c.denied.ensures

pub returns-in-Join : goal.returns-in-Join
returns-in-Join c = judged-join c.args.c c.args.line c.args.turn (not-false _ c.if-not-c.false) c.in-Join.is c.join_verdict.ensures

pub returns-in-Leave : goal.returns-in-Leave
returns-in-Leave c = judged-leave c.args.c c.args.line c.args.turn (not-false _ c.if-not-c.false) c.in-Leave.is c.leave_verdict.ensures

pub returns-in-Send : goal.returns-in-Send
returns-in-Send c = judged-send c.args.c c.args.line c.args.turn (not-false _ c.if-not-c.false) c.in-Send.is c.send_verdict.ensures

pub returns-in_default : goal.returns-in_default
returns-in_default c = judged-turn c.args.c c.args.line c.args.turn (not-false _ c.if-not-c.false) (last-call c.args.line c.in_default.not-Join c.in_default.not-Leave c.in_default.not-Send c.requires) _ c.minute_of.ensures c.turn_verdict.ensures
