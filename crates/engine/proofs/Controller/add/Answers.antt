use mathlib.Core.Path.{refl}
use Rattle.engine.proofs.Controller.add.Goals as goal

pub returns : goal.returns
returns c = c.in_ok-answer.ensures.each c.args.self refl refl
