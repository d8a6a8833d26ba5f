use Rattle.views.specs.View.{ring_of_word}
use Rattle.ranking.specs.Slots.{history_scale, occupied}
use Rattle.ranking.specs.Ranking.{PassedOf}
use Rattle.ranking.proofs.histories.passed.Given as goal

abbrev pub invariant-loop-k : goal.invariant-loop-k
invariant-loop-k l = PassedOf (ring_of_word l.init) (occupied (history_scale l.words) l.slots l.k) l.list l.m l.seen
