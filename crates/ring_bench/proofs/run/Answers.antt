-- The rows are lent whole: an array that is filled has its length.
-- Assumes nothing.
use Rattle.ring_bench.proofs.Inputs.{filled-length}
use Rattle.ring_bench.proofs.run.Goals as goal

pub slice_bounds-print_rows-end : goal.slice_bounds-print_rows-end
slice_bounds-print_rows-end c = filled-length 2621504 0
