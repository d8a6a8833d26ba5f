use native.Mathlib.Omega.{arith}
use Rattle.pool.proofs.Reports.{groups_none, told-next}
use Rattle.pool.proofs.report.get_told.Goals as goal

pub loop-j-init : goal.loop-j-init
loop-j-init c = groups_none _ _

pub loop-j-preserved : goal.loop-j-preserved
loop-j-preserved c = told-next _ _ _ _ _ _ (omega (arith, c.requires)) c.tell.ensures c.told.ensures c.loop-j.invariant
