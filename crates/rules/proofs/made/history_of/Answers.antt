use native.Mathlib.Omega.{arith}
use mathlib.Core.Path.{refl}
use Rattle.rules.proofs.Scans.{slots-none, slots_next, slots-whole}
use Rattle.rules.proofs.made.history_of.Goals as goal

pub loop-i-init : goal.loop-i-init
loop-i-init c = slots-none refl

pub loop-i-preserved : goal.loop-i-preserved
loop-i-preserved c = slots_next _ (omega arith) c.of_word.ensures c.loop-i.invariant

pub returns : goal.returns
returns c = (slots-whole _ _ (omega arith) c.requires c.loop-i.invariant, c.requires)
