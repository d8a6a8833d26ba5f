use Rattle.pool.specs.Pool.{record_up_to}
use Rattle.evidence.specs.Reports.{Touched}
use Rattle.evidence.proofs.merging.touched.Given as goal

abbrev pub invariant-loop-s : goal.invariant-loop-s
invariant-loop-s l = Touched (record_up_to l.words l.listed l.s-index) l.seen
