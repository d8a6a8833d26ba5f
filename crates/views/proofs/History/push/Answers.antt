use native.Mathlib.Omega.{arith}
use mathlib.Core.Path.{◌∙◌}
use Rattle.views.proofs.Held.{push-last}
use Rattle.views.proofs.History.push.Goals as goal

pub returns : goal.returns
returns c = (c.cut.ensures.0 ∙ push-last _ _ _ _ c.count.ensures.0 c.min.ensures, omega arith)
