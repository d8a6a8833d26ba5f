use native.Mathlib.Omega.{arith}
use mathlib.Core.Path.{◌≡◌, refl, ◌∙◌}
use lib.ListN.{length-set}
use Rattle.views.proofs.Tables.{list_of-none}
use Rattle.views.proofs.Views.{view-whole}
use Rattle.views.proofs.Held.{held_more}
use Rattle.statements.proofs.FieldLaws.{views-listed}
use Rattle.pool.proofs.Laws.{views-of, nth-fits}
use Rattle.pool.proofs.write.get_views.Goals as goal

pub loop-p-init : goal.loop-p-init
loop-p-init c = (refl, list_of-none _ _)

pub loop-p-preserved : goal.loop-p-preserved
loop-p-preserved c = (length-set c.loop-p.views c.loop-p.p c.of_word.result ∙ c.loop-p.invariant.0, held_more c.loop-p.views c.loop-p.p c.of_word.result _ (omega (arith, c.loop-p.invariant.0, c.count-len.ensures.1)) c.loop-p.invariant.1 (c.of_word.ensures ∙ view-whole _ c.nth.ensures (nth-fits _ _ _)))

pub returns : goal.returns
returns c = (views-listed _ _ ∙ let e : c.loop-p.p ≡ c.count-len.result = omega arith in (rw e at c.loop-p.invariant.1) ∙ views-of _ _ _ c.count-len.ensures.0, c.count-len.ensures.1)
