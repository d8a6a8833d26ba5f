use native.Mathlib.Omega.{arith}
use Rattle.schedule.proofs.Values.{so-read-first, so-read-put, so-read-past, so-read-refused, so-read-all}
use Rattle.schedule.proofs.line.many_at.Goals as goal
use Rattle.schedule.proofs.line.many_at.Goals.{then-j, else-j}

pub loop-j-init : goal.loop-j-init
loop-j-init g c = so-read-first _ _ _ _

pub returns-in_err-value : goal.returns-in_err-value
returns-in_err-value g c = rw c.from_residual.ensures (so-read-refused _ _ _ _ _ _ c.loop-j.invariant _ c.loop-j-test.true c.in_err-value.ensures)

pub loop-j-preserved : goal.loop-j-preserved
loop-j-preserved g c = elim c.if-j.branch [
  | then-j w ↦ so-read-put _ _ _ _ _ _ c.loop-j.invariant _ _ _ c.in_ok-value.ensures w.memory-is (omega arith)
  | else-j w ↦ so-read-past _ _ _ _ _ _ c.loop-j.invariant _ _ _ c.in_ok-value.ensures w.memory-is w.if-j.false
]

pub returns : goal.returns
returns g c = so-read-all _ _ _ _ _ _ c.loop-j.invariant _ c.loop-j-test.false c.loop-j.auto.j-end
