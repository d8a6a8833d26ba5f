use native.Mathlib.Omega.{arith}
use mathlib.Core.Path.{refl}
use Rattle.pool.proofs.Laws.{of-views, nth-fits}
use Rattle.votes.specs.Keys.{mix_from}
use Rattle.votes.proofs.Alike.{mix-zero, mix-more, mix-part}
use Rattle.votes.proofs.keys.mixed.Goals as goal

pub loop-p-init : goal.loop-p-init
loop-p-init c = (omega arith, mix-zero _ _ refl)

pub overflow_mul-h : goal.overflow_mul-h
overflow_mul-h c = omega (arith, mix-part _ _ (omega arith) c.nth.ensures (nth-fits _ _ _) c.weight.ensures.1)

pub overflow_add-h : goal.overflow_add-h
overflow_add-h c = omega (arith, c.count-c.ensures.1, c.loop-p.invariant.0, mix-part _ _ (omega arith) c.nth.ensures (nth-fits _ _ _) c.weight.ensures.1)

pub loop-p-preserved : goal.loop-p-preserved
loop-p-preserved c = (omega (arith, c.loop-p.invariant.0, mix-part _ _ (omega arith) c.nth.ensures (nth-fits _ _ _) c.weight.ensures.1), mix-more _ _ _ _ _ c.loop-p.invariant.1 (omega arith) c.nth.ensures c.weight.ensures.0)

pub returns : goal.returns
returns c = of-views (mix_from 0 0) _ _ _ (omega (arith, c.count-c.ensures.0)) c.loop-p.invariant.1
