use Rattle.pool.specs.Pool.{record_in}
use Rattle.sealing.specs.Memos.{Later, RememberedFrom}
use Rattle.sealing.proofs.judge.judge_choices.Given as goal

abbrev pub invariant-loop-c : goal.invariant-loop-c
invariant-loop-c l = Later l.words (record_in l.words l.ids) l.init l.keys l.rows l.initial.memo l.memo × RememberedFrom 0 l.c l.memo
