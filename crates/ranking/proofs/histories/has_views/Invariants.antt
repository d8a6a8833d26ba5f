use Rattle.pool.specs.Pool.{stmt_at}
use Rattle.pool.proofs.Laws.{HeldTo}
use Rattle.ranking.proofs.histories.has_views.Given as goal

abbrev pub invariant-loop-p : goal.invariant-loop-p
invariant-loop-p l = HeldTo (stmt_at l.words l.i).views l.words l.j l.p
