use mathlib.Core.Path.{◌∙◌}
use Rattle.bench.proofs.Verdicts.{join-member, join-again, join-open}
use Rattle.bench.proofs.state.join_verdict.Goals as goal
use Rattle.bench.proofs.state.join_verdict.Goals.{then-has_member-via-then-has_member, then-has_member-via-else-has_member+then-c}

pub returns-then-has_member : goal.returns-then-has_member
returns-then-has_member c = c.denied.ensures ∙ elim c.then-has_member.branch [
  | then-has_member-via-then-has_member w ↦ join-member c.args.c _ c.has_member.ensures w.if-has_member.true
  | then-has_member-via-else-has_member+then-c w ↦ join-again c.args.c _ c.has_member.ensures w.if-has_member.false w.if-c.true
]

pub returns : goal.returns
returns c = join-open c.args.c _ c.has_member.ensures c.if-has_member.false c.if-c.false
