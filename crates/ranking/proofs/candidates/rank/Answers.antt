use Rattle.ranking.specs.Slots.{view_scale}
use Rattle.ranking.proofs.Slots.{slots-first}
use Rattle.ranking.proofs.Ranks as laws
use Rattle.ranking.proofs.candidates.rank.Goals as goal
use Rattle.ranking.proofs.candidates.rank.Goals.{then-not-fill_slots-via-then-not-fill_slots, then-not-fill_slots-via-else-not-fill_slots+then-not-compare_slots}

pub fill_slots-requires : goal.fill_slots-requires
fill_slots-requires c = (c.requires, slots-first view_scale _ _ _ (laws.size-least _))

pub returns-then-not-fill_slots : goal.returns-then-not-fill_slots
returns-then-not-fill_slots c = elim c.then-not-fill_slots.branch [
  | then-not-fill_slots-via-then-not-fill_slots w ↦ λ X h. laws.clash-conflict _ X _ _ _ h (c.fill_slots.ensures.bad w.if-not-fill_slots.true) _ _
  | then-not-fill_slots-via-else-not-fill_slots+then-not-compare_slots w ↦ λ X h. laws.apart-conflict _ X _ _ _ h _ (c.fill_slots.ensures.good w.if-not-fill_slots.false) (w.compare_slots.ensures.bad w.if-not-compare_slots.true) _ _
]

pub returns : goal.returns
returns c = λ X h. laws.ranked _ X _ _ _ h _ (c.fill_slots.ensures.good c.if-not-fill_slots.false) (c.compare_slots.ensures.good c.if-not-compare_slots.false) _ _ c.list_slots-count.ensures
