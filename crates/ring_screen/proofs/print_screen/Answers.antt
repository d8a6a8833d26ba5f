-- The screen stands within the memory that is lent.
-- Assumes nothing.
use Rattle.std.proofs.Common.{sym}
use Rattle.std.proofs.lemmas.List.{length-take-le}
use Rattle.service.proofs.Scheduling.{screen-within}
use Rattle.ring_screen.proofs.print_screen.Goals as goal

pub slice_bounds-print-end : goal.slice_bounds-print-end
slice_bounds-print-end c = screen-within _ _ _ _ _ c.after-n.ensures

pub slice_bounds-print-end-2 : goal.slice_bounds-print-end-2
slice_bounds-print-end-2 c = sym (length-take-le _ _ (screen-within _ _ _ _ _ c.after-n.ensures))
