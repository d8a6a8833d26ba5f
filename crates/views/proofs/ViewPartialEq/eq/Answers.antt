use native.Mathlib.Omega.{arith}
use Rattle.protocol.specs.View.{same_view}
use Rattle.views.proofs.Views.{same_view_lem}
use Rattle.views.proofs.Held.{of_words}
use Rattle.views.proofs.ViewPartialEq.eq.Goals as goal

pub returns : goal.returns
unfolding same_view
returns c = of_words same_view _ _ (same_view_lem _ _ (omega arith) (omega arith)) c.word.ensures c.word-2.ensures
