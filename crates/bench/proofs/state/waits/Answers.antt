use Rattle.bench.proofs.Verdicts.{waits-never, waits-outside}
use Rattle.bench.proofs.state.waits.Goals as goal

pub returns-then-not-c : goal.returns-then-not-c
returns-then-not-c c = waits-never c.args.c _ c.if-not-c.true

pub returns : goal.returns
returns c = waits-outside c.args.c _ _ c.if-not-c.false c.is_open.ensures
