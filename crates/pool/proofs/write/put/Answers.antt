use native.Mathlib.Omega.{arith}
use Rattle.pool.proofs.Writes.{put_is}
use Rattle.pool.proofs.write.put.Goals as goal

pub returns : goal.returns
returns c = put_is c.args.words.now _ _ _ c.slot-s.result _ _ c.head_word.result c.word.result c.word-2.result (omega arith) c.slot-s.ensures.0 c.put_views.ensures c.put_groups.ensures c.head_word.ensures (omega arith) (omega arith) (omega arith) (omega arith) c.word.ensures (omega arith) c.word-2.ensures
