use Rattle.bench.proofs.States.{shown-none, shown-near, shown-far}
use Rattle.bench.proofs.state.shown_sender.Goals as goal

pub returns-then-count-eq0 : goal.returns-then-count-eq0
returns-then-count-eq0 c = shown-none _ _ c.if-count-eq0.true

pub returns-then-senders-lt-WIDTH : goal.returns-then-senders-lt-WIDTH
returns-then-senders-lt-WIDTH c = shown-near _ _ c.if-count-eq0.false c.if-senders-lt-WIDTH.true

pub returns : goal.returns
returns c = shown-far _ _ c.if-count-eq0.false c.if-senders-lt-WIDTH.false
