use mathlib.Core.Path.{◌∙◌}
use Rattle.bench.proofs.Verdicts.{turn-past, turn-open}
use Rattle.bench.proofs.state.turn_verdict.Goals as goal

pub returns-then-minute-gt-LAST_MINUTE : goal.returns-then-minute-gt-LAST_MINUTE
returns-then-minute-gt-LAST_MINUTE c = c.denied.ensures ∙ turn-past _ _ c.if-minute-gt-LAST_MINUTE.true

pub returns : goal.returns
returns c = turn-open _ _ c.if-minute-gt-LAST_MINUTE.false
