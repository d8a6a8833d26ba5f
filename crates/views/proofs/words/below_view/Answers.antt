use native.Mathlib.Omega.{arith}
use mathlib.Core.Path.{◌∙◌}
use Rattle.views.proofs.Views.{below-stop, below-words}
use Rattle.views.proofs.words.below_view.Goals as goal

pub returns-then-within_view : goal.returns-then-within_view
returns-then-within_view c = below-words _ _ _ _ (record { word = omega arith; view = c.narrow.ensures }) (record { word = omega arith; view = c.narrow-then-within_view.ensures }) _ c.within_view.ensures c.if-within_view.true

pub returns-else-within_view : goal.returns-else-within_view
returns-else-within_view c = c.if-within_view.false ∙ below-stop _ _ _ c.within_view.ensures c.if-within_view.false
