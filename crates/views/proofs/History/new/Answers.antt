use mathlib.Core.Path.{refl}
use Rattle.views.proofs.Held.{none-held}
use Rattle.views.proofs.History.new.Goals as goal

pub returns : goal.returns
returns c = (none-held _ refl, refl)
