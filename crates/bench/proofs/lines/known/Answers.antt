use Rattle.bench.proofs.Runs.{full-whole, full-before}
use Rattle.bench.proofs.lines.known.Goals as goal

pub returns-then-whole : goal.returns-then-whole
returns-then-whole c = full-whole _ _ _ _ c.if-whole.true c.pool_len.ensures.0

pub returns-else-whole : goal.returns-else-whole
returns-else-whole c = full-before _ _ _ c.if-whole.false
