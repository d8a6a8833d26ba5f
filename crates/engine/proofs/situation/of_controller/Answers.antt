use mathlib.Core.Path.{refl, ap}
use mathlib.Core.Bool.{◌&&◌}
use lib.Dec.{ltb}
use Rattle.engine.proofs.situation.of_controller.Goals as goal

pub returns : goal.returns
returns c = record { number = refl; ring = refl; delivered = refl; requested = refl; joining = refl; minute = refl; leaving = c.may_leave.ensures; shown = refl; top = c.of_word-t.ensures; entered = c.has-entered.ensures; stands = ap (λ b. c.has-entered.result && b) c.none_above.ensures; left = c.has_left.ensures; active = ap (ltb 0) c.count.ensures.0 }
