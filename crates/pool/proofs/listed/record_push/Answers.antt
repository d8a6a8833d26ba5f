use native.Mathlib.Omega.{arith}
use Rattle.pool.proofs.Lists.{push-full-in, push-room-in}
use Rattle.pool.proofs.listed.record_push.Goals as goal

pub returns-then-n-ge-CAPACITY : goal.returns-then-n-ge-CAPACITY
returns-then-n-ge-CAPACITY c = push-full-in _ _ (omega arith) (omega (arith, c.record_length-n.ensures.0))

pub returns : goal.returns
returns c = push-room-in _ _ (omega arith) _ c.record_length-n.ensures.0 (omega arith)
