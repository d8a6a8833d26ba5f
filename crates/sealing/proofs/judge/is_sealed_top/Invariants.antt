use Rattle.pool.specs.Pool.{record_in}
use Rattle.tables.proofs.Searches.{rows_to}
use Rattle.sealing.proofs.Laws.{Sought}
use Rattle.sealing.proofs.judge.is_sealed_top.Given as goal

abbrev pub invariant-loop-agreement : goal.invariant-loop-agreement
invariant-loop-agreement l = Sought l.words (record_in l.words l.ids) l.init l.keys l.rows l.t l.agreement

abbrev pub decreases-loop-agreement : goal.decreases-loop-agreement
decreases-loop-agreement l = rows_to l.agreement
