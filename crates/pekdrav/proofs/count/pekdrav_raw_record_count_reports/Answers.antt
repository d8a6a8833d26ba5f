use Rattle.pekdrav.proofs.Counting.{settled, told-conflict, told-many, told-value, count-told}
use Rattle.pekdrav.proofs.count.pekdrav_raw_record_count_reports.Goals as goal
use Rattle.pekdrav.proofs.count.pekdrav_raw_record_count_reports.Goals.{then-e-via-then-e, then-e-via-else-e+then-e-2}

pub returns-then-e : goal.returns-then-e
returns-then-e c = elim c.then-e.branch [
  | then-e-via-then-e w ↦ told-conflict _ _ _ _ _ _ _ c.of_record-e.ensures.0 _ _ w.if-e.true
  | then-e-via-else-e+then-e-2 w ↦ told-many _ _ _ _ _ _ _ c.of_record-e.ensures.0 _ _ w.if-e.false w.if-e-2.true
]

pub count_reports-requires : goal.count_reports-requires
count_reports-requires c = settled c.of_record-e.ensures.0 c.if-e.false c.if-e-2.false

pub returns : goal.returns
returns c = told-value _ _ _ _ _ _ _ c.of_record-e.ensures.0 _ _ c.if-e.false c.if-e-2.false _ (count-told _ _ _ _ _ _ c.count_reports.ensures c.tell.ensures)
