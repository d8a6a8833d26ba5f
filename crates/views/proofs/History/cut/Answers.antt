use mathlib.Core.Path.{refl}
use Rattle.views.proofs.Held.{cut-is}
use Rattle.views.proofs.History.cut.Goals as goal

pub returns : goal.returns
returns c = (cut-is c.args.self.views c.args.at c.args.v _ c.well_formed.0.1.1.0.1.0.1 c.requires refl refl, refl)
