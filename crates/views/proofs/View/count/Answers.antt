use native.Mathlib.Omega.{arith}
use Rattle.views.specs.Held.{view_is}
use Rattle.views.proofs.Views.{counted, at_most}
use Rattle.views.proofs.View.count.Goals as goal

pub returns : goal.returns
returns c = let e = counted _ _ c.members.ensures in (e, omega (arith, e, at_most (view_is c.args.self)))
