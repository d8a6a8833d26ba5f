use mathlib.Core.Path.{◌∙◌}
use Rattle.bench.proofs.Verdicts.{send-outside, send-place, send-another, send-again, send-open}
use Rattle.bench.proofs.state.send_verdict.Goals as goal
use Rattle.bench.proofs.state.send_verdict.Goals.{then-c-j-via-then-c-j, then-c-j-via-else-c-j+then-has}

pub returns-then-not-is_notice : goal.returns-then-not-is_notice
returns-then-not-is_notice c = c.denied.ensures ∙ send-outside c.args.c c.args.notice _ c.is_notice.ensures c.if-not-is_notice.true

pub bounds-c-j : goal.bounds-c-j
bounds-c-j c = send-place c.args.c c.args.notice _ c.is_notice.ensures c.if-not-is_notice.false

pub returns-then-c-j : goal.returns-then-c-j
returns-then-c-j c = c.denied-then-c-j.ensures ∙ elim c.then-c-j.branch [
  | then-c-j-via-then-c-j w ↦ send-another c.args.c c.args.notice _ c.is_notice.ensures c.if-not-is_notice.false w.if-c-j.true
  | then-c-j-via-else-c-j+then-has w ↦ send-again c.args.c c.args.notice _ c.is_notice.ensures c.if-not-is_notice.false w.if-c-j.false _ w.has.ensures w.if-has.true
]

pub returns : goal.returns
returns c = send-open c.args.c c.args.notice _ c.is_notice.ensures c.if-not-is_notice.false c.if-c-j.false _ c.has.ensures c.if-has.false
