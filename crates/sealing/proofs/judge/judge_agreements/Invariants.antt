use Prim.Native.Nat.{◌+◌}
use Rattle.pool.specs.Pool.{record_in}
use Rattle.sealing.specs.Memos.{Later, RememberedFrom}
use Rattle.sealing.proofs.judge.judge_agreements.Given as goal

abbrev pub invariant-loop-a : goal.invariant-loop-a
invariant-loop-a l = Later l.words (record_in l.words l.ids) l.init l.keys l.rows l.initial.memo l.memo × RememberedFrom 512 (512 + l.a) l.memo
