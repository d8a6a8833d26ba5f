use mathlib.Core.Path.{◌∙◌}
use Rattle.pool.proofs.Reports.{alike_all}
use Rattle.pool.proofs.report.same_report.Goals as goal

pub returns-then-same_bars : goal.returns-then-same_bars
returns-then-same_bars c = c.if-same_bars.true ∙ alike_all _ _ _ (c.same_bars.ensures c.if-same_bars.true)
