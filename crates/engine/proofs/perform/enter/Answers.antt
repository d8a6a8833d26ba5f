use mathlib.Core.Path.{refl}
use Rattle.engine.proofs.Performs.{entering}
use Rattle.engine.proofs.perform.enter.Goals as goal

pub merged-held-requires : goal.merged-held-requires
merged-held-requires c = c.requires.settled

pub returns : goal.returns
returns c = (refl, entering c.args.c _ _ _ _ c.args.s c.requires _ _ _ c.push-entered.ensures.0 c.merged-held.ensures)
