use lib.ListN.{get_or}
use Rattle.bench.proofs.Records.{MarksTo}
use Rattle.bench.proofs.seat.marks_of.Given as goal

abbrev pub invariant-loop-id : goal.invariant-loop-id
invariant-loop-id l = MarksTo (λ j. get_or l.ids j 0) l.id-index l.marks
