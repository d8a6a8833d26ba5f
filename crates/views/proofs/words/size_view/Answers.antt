use native.Mathlib.Omega.{arith}
use Rattle.views.specs.View.{view_of}
use Rattle.views.proofs.Views.{size_word, size-most}
use Rattle.views.proofs.words.size_view.Goals as goal

pub returns : goal.returns
returns c = let e = size_word c.args.v _ (record { word = omega arith; view = c.narrow.ensures }) in (e, omega (arith, e, size-most (view_of c.args.v)))
