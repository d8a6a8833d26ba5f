use native.Mathlib.Omega.{arith}
use mathlib.Core.Path.{sym, ◌∙◌}
use Rattle.evidence.proofs.Merges as laws
use Rattle.evidence.proofs.merging.merge_listed.Goals as goal

pub loop-i-init : goal.loop-i-init
loop-i-init c = laws.merge-first _ _ _ _ _ _ c.record_length-i.ensures.0

pub loop-i-preserved : goal.loop-i-preserved
loop-i-preserved c = c.loop-i.invariant ∙ laws.merge-more _ _ _ _ _ _ _ c.loop-i-test.true (omega (arith, c.record_length-i.ensures.1)) c.told.ensures c.both-b.ensures

pub returns : goal.returns
returns c = sym (c.loop-i.invariant ∙ laws.merge-end _ _ _ _ _ (omega arith))
