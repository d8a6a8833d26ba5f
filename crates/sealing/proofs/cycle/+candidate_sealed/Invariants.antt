use Prim.Native.Nat.{◌+◌, ◌*◌}
use Rattle.protocol.specs.View.{size}
use Rattle.views.specs.View.{view_of}
use Rattle.pool.specs.Pool.{record_in}
use Rattle.tables.specs.Index.{key_at}
use Rattle.tables.proofs.Searches.{rows_to}
use Rattle.sealing.specs.Memos.{Later}
use Rattle.sealing.proofs.Laws as laws
use Rattle.sealing.proofs.cycle.+candidate_sealed.Given as goal

abbrev pub decreases-candidate : goal.decreases-candidate
decreases-candidate l = 2 * size 16 (view_of l.v)

abbrev pub decreases-sealed : goal.decreases-sealed
decreases-sealed l = 2 * size 16 (view_of (key_at l.keys.now 1 l.a)) + 1

abbrev pub invariant-candidate-loop-agreement : goal.invariant-candidate-loop-agreement
invariant-candidate-loop-agreement l = Later l.words (record_in l.words l.ids) l.init l.keys l.rows l.initial.memo l.memo × laws.Sought l.words (record_in l.words l.ids) l.init l.keys l.rows l.t l.agreement

abbrev pub decreases-candidate-loop-agreement : goal.decreases-candidate-loop-agreement
decreases-candidate-loop-agreement l = rows_to l.agreement

abbrev pub invariant-candidate-loop-choice : goal.invariant-candidate-loop-choice
invariant-candidate-loop-choice l = Later l.words (record_in l.words l.ids) l.init l.keys l.rows l.initial.memo l.memo × laws.Tried l.words (record_in l.words l.ids) l.init l.keys l.rows l.v l.choice

abbrev pub decreases-candidate-loop-choice : goal.decreases-candidate-loop-choice
decreases-candidate-loop-choice l = rows_to l.choice

abbrev pub invariant-sealed-loop-p : goal.invariant-sealed-loop-p
invariant-sealed-loop-p l = Later l.words (record_in l.words l.ids) l.init l.keys l.rows l.initial.memo l.memo × laws.AllTo l.words (record_in l.words l.ids) l.init l.keys l.rows l.n l.p

abbrev pub invariant-sealed-loop-agreement : goal.invariant-sealed-loop-agreement
invariant-sealed-loop-agreement l = Later l.words (record_in l.words l.ids) l.init l.keys l.rows l.initial.memo l.memo × laws.Sought l.words (record_in l.words l.ids) l.init l.keys l.rows l.t l.agreement

abbrev pub decreases-sealed-loop-agreement : goal.decreases-sealed-loop-agreement
decreases-sealed-loop-agreement l = rows_to l.agreement
