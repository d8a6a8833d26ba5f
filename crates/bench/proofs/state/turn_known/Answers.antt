use mathlib.Core.Path.{◌∙◌}
use Rattle.bench.proofs.Verdicts.{known-open, known-after}
use Rattle.bench.proofs.state.turn_known.Goals as goal

pub returns-then-waits : goal.returns-then-waits
returns-then-waits c = known-open c.args.c _ _ c.waits.ensures _ c.if-waits.true

pub returns : goal.returns
returns c = c.turn_after.ensures ∙ known-after c.args.c _ _ c.waits.ensures _ c.if-waits.false
