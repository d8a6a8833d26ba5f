use Rattle.tables.specs.Index.{slot_of}
use Rattle.tables.proofs.Slots.{slot-fits}
use Rattle.tables.proofs.search.slot.Goals as goal

pub overflow_add-low : goal.overflow_add-low
overflow_add-low c = record { fits = slot-fits _ c.ranges.w.fits }

pub returns : goal.returns
unfolding slot_of
returns c = c.slot_from.ensures
