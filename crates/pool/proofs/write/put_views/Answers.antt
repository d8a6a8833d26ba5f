use native.Mathlib.Omega.{arith}
use Rattle.pool.proofs.Rows.{none_written, one_written}
use Rattle.pool.proofs.Writes.{word-of, wrote-views}
use Rattle.pool.proofs.write.put_views.Goals as goal

pub loop-p-init : goal.loop-p-init
loop-p-init c = none_written _ _ _

pub loop-p-preserved : goal.loop-p-preserved
loop-p-preserved c = one_written _ _ _ _ _ _ c.loop-p.invariant (word-of _ _ (omega arith) c.word.ensures)

pub returns : goal.returns
returns c = wrote-views _ _ _ c.loop-p.p _ (omega (arith, c.count-p-end.ensures.0)) c.loop-p.invariant
