-- The rows stand within the memory that is lent.
-- Assumes nothing.
use Rattle.std.proofs.Common.{sym}
use Rattle.std.proofs.lemmas.List.{length-take-le}
use Rattle.bench.proofs.Answers.{answer-within}
use Rattle.ring_bench.proofs.print_rows.Goals as goal

pub slice_bounds-print-end : goal.slice_bounds-print-end
slice_bounds-print-end c = answer-within _ _ _ _ c.run-n.ensures

pub slice_bounds-print-end-2 : goal.slice_bounds-print-end-2
slice_bounds-print-end-2 c = sym (length-take-le _ _ (answer-within _ _ _ _ c.run-n.ensures))
