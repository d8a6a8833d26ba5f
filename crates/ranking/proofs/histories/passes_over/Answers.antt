use mathlib.Core.Path.{◌∙◌}
use Rattle.ranking.proofs.Skips as laws
use Rattle.ranking.proofs.histories.passes_over.Goals as goal

pub returns-then-below_view : goal.returns-then-below_view
returns-then-below_view c = λ init q. laws.passes-lacking init _ _ _ q _ c.below_view.ensures _ c.if-below_view.true c.has_view.ensures

pub returns-else-below_view : goal.returns-else-below_view
returns-else-below_view c = λ init q. c.if-below_view.false ∙ laws.passes-above init _ _ _ q _ c.below_view.ensures c.if-below_view.false
