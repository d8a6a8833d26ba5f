use native.Mathlib.Omega.{arith}
use mathlib.Core.Path.{sym, ◌∙◌}
use lib.ListN.{length}
use borrow.Author.Tests.{eqb-true, eqb-false}
use Rattle.bench.proofs.Ends.{after-empty, after-long, after_run}
use Rattle.bench.proofs.lines.run_with.Goals as goal
use Rattle.bench.proofs.lines.run_with.Goals.{then-is_empty-via-then-is_empty, then-is_empty-via-else-is_empty+then-schedule-gt-SCHEDULE_MAX}

pub returns-then-is_empty : goal.returns-then-is_empty
returns-then-is_empty c = elim c.then-is_empty.branch [
  | then-is_empty-via-then-is_empty w ↦ after-empty c.args.schedule.now c.args.rows.now _ _ _ c.requires _ _ c.put_header.ensures.is c.not_run.ensures (eqb-true (length c.args.schedule.now) 0 (sym c.is_empty.ensures ∙ w.if-is_empty.true))
  | then-is_empty-via-else-is_empty+then-schedule-gt-SCHEDULE_MAX w ↦ after-long c.args.schedule.now c.args.rows.now _ _ _ c.requires _ _ c.put_header.ensures.is c.not_run.ensures w.if-schedule-gt-SCHEDULE_MAX.true
]

pub returns : goal.returns
returns c = after_run c.args.schedule.now c.args.rows.now _ _ _ _ _ c.put_header.ensures.is c.run_lines.ensures (eqb-false (length c.args.schedule.now) 0 (sym c.is_empty.ensures ∙ c.if-is_empty.false)) (omega (arith, c.if-schedule-gt-SCHEDULE_MAX.false))
