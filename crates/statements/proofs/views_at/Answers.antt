use native.Mathlib.Omega.{arith}
use mathlib.Core.Path.{refl, ◌∙◌}
use lib.ListN.{length-set}
use Rattle.statements.proofs.Views.{views-first, views-next, views-refused, views-more, views-whole}
use Rattle.statements.proofs.views_at.Goals as goal

pub loop-i-init : goal.loop-i-init
loop-i-init c = (refl, views-first _ _ _ _)

pub returns-in_err-read : goal.returns-in_err-read
returns-in_err-read c = rw c.from_residual.ensures (record { read = views-refused _ _ _ _ _ _ c.loop-i.invariant.1 c.loop-i-test.true c.in_err-read.ensures; count = tt })

pub loop-i-preserved : goal.loop-i-preserved
loop-i-preserved c = (length-set c.loop-i.views c.loop-i.i c.in_ok-read.read.value ∙ c.loop-i.invariant.0, views-next _ _ _ _ _ _ c.loop-i.invariant.1 _ _ (omega arith) (omega (arith, c.loop-i.invariant.0)) c.in_ok-read.ensures)

pub returns-then-at-s : goal.returns-then-at-s
returns-then-at-s c = record { read = views-more _ _ _ _ _ _ c.loop-i.invariant.1 (omega arith) c.if-at-s.true; count = tt }

pub returns : goal.returns
returns c = record { read = views-whole _ _ _ _ _ _ c.loop-i.invariant.1 (omega arith) c.if-at-s.false; count = refl }
