use mathlib.Core.Path.{◌∙◌}
use Rattle.bench.proofs.Verdicts.{leave-outside, leave-again, leave-open}
use Rattle.bench.proofs.state.leave_verdict.Goals as goal
use Rattle.bench.proofs.state.leave_verdict.Goals.{then-c-eq0-via-then-c-eq0, then-c-eq0-via-else-c-eq0+then-c}

pub returns-then-c-eq0 : goal.returns-then-c-eq0
returns-then-c-eq0 c = c.denied.ensures ∙ elim c.then-c-eq0.branch [
  | then-c-eq0-via-then-c-eq0 w ↦ leave-outside c.args.c w.if-c-eq0.true
  | then-c-eq0-via-else-c-eq0+then-c w ↦ leave-again c.args.c w.if-c-eq0.false w.if-c.true
]

pub returns : goal.returns
returns c = leave-open c.args.c c.if-c-eq0.false c.if-c.false
