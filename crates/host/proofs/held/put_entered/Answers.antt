use native.Mathlib.Omega.{arith}
use Rattle.host.proofs.Loading.{store-first, store-next, store-last}
use Rattle.host.proofs.held.put_entered.Goals as goal

pub loop-i-init : goal.loop-i-init
loop-i-init c = store-first _ c.args.words.now c.args.entered.len c.told-words

pub loop-i-preserved : goal.loop-i-preserved
loop-i-preserved c = store-next _ c.loop-i.invariant (omega arith) c.word_of.ensures

pub returns : goal.returns
returns c = store-last c.args.entered c.args.words.now c.loop-i.invariant c.told-words (c.well_formed.1.0.1.1.0.1.0.1) (omega arith)
