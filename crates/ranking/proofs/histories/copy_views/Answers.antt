use native.Mathlib.Omega.{arith}
use mathlib.Core.Path.{◌≡◌, sym, ap, ◌∙◌}
use lib.ListN.{length-set}
use Rattle.pool.proofs.Laws.{views-of}
use Rattle.views.specs.View.{views_of}
use Rattle.ranking.proofs.Summits.{copy-first, copy_more}
use Rattle.ranking.proofs.histories.copy_views.Goals as goal

pub loop-p-init : goal.loop-p-init
loop-p-init c = (c.requires, copy-first _ _)

pub bounds-out-p : goal.bounds-out-p
bounds-out-p c = omega (arith, c.count-c.ensures.1)

pub loop-p-preserved : goal.loop-p-preserved
loop-p-preserved c = (simp length-set c.loop-p.invariant.0, copy_more _ _ _ _ (omega (arith, c.count-c.ensures.1)) c.loop-p.invariant.1 c.nth.ensures)

pub returns : goal.returns
returns c = (let e : c.loop-p.p ≡ c.count-c.result = omega arith in ap (views_of c.loop-p.out) (sym e) ∙ c.loop-p.invariant.1 ∙ views-of _ _ _ (e ∙ c.count-c.ensures.0))
