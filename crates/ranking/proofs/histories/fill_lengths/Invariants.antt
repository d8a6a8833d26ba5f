use Rattle.ranking.specs.Slots.{history_scale, number_in, Slots}
use Rattle.ranking.proofs.histories.fill_lengths.Given as goal

abbrev pub invariant-loop-a : goal.invariant-loop-a
invariant-loop-a g l = Slots (history_scale l.words) l.base (number_in l.rows) (g.M.Marks.seals l.memo) l.a l.slots
