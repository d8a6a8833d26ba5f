use Rattle.views.specs.View.{ring_of_word}
use Rattle.pool.specs.Pool.{stmt_at}
use Rattle.ranking.proofs.Skips as laws
use Rattle.ranking.proofs.histories.passed_by.Given as goal

abbrev pub invariant-loop-i : goal.invariant-loop-i
invariant-loop-i l = laws.TooTo (ring_of_word l.init) (stmt_at l.words l.n).views l.list l.seen l.i l.all
