use Rattle.tables.specs.Index.{key_at}
use Rattle.ranking.specs.Slots.{view_scale, choice_mark, Slots}
use Rattle.ranking.proofs.candidates.fill_slots.Given as goal

abbrev pub invariant-loop-c : goal.invariant-loop-c
invariant-loop-c l = Slots view_scale l.init (key_at l.keys 0) (choice_mark l.memo) l.c l.slots
