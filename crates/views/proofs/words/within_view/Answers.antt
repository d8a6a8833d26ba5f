use native.Mathlib.Omega.{arith}
use Rattle.views.proofs.Views.{within-words}
use Rattle.views.proofs.words.within_view.Goals as goal

pub returns : goal.returns
returns c = within-words _ _ _ _ (record { word = omega arith; view = c.narrow-a.ensures }) (record { word = omega arith; view = c.narrow-b.ensures })
