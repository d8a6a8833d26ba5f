use native.Mathlib.Omega.{arith}
use mathlib.Core.Path.{refl}
use Rattle.ranking.proofs.Skips as laws
use Rattle.ranking.proofs.histories.passed_by.Goals as goal

pub loop-i-init : goal.loop-i-init
loop-i-init c = laws.too-first _ _ _ _

pub loop-i-preserved : goal.loop-i-preserved
loop-i-preserved c = laws.too-more _ _ _ _ _ _ _ _ _ _ (omega (arith, c.requires)) refl refl (c.passes_over-hit.ensures _ c.top_view-t.ensures) c.note-all.ensures c.loop-i.invariant

pub returns : goal.returns
returns c = laws.too-all _ _ _ _ _ _ _ (omega arith) c.loop-i.invariant
