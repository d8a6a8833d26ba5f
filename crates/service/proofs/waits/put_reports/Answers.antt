use native.Mathlib.Omega.{arith}
use Rattle.evidence.proofs.Reporting.{length_most}
use Rattle.service.proofs.WaitLaws.{reports-outside, reports-entered, reports-wrote}
use Rattle.service.proofs.waits.put_reports.Goals as goal
use Rattle.service.proofs.waits.put_reports.Goals.{then-not-has_member-via-then-not-has_member, then-not-has_member-via-else-not-has_member+then-entered}

pub returns-then-not-has_member : goal.returns-then-not-has_member
returns-then-not-has_member c = elim c.then-not-has_member.branch [
  | then-not-has_member-via-then-not-has_member w ↦ (reports-outside _ _ _ _ _ _ _ c.has_member.ensures _ _ w.if-not-has_member.true, omega arith)
  | then-not-has_member-via-else-not-has_member+then-entered w ↦ (reports-entered _ _ _ _ _ _ _ c.has_member.ensures _ _ w.if-not-has_member.false w.if-entered.true, omega arith)
]

pub needed-n-requires : goal.needed-n-requires
needed-n-requires c = length_most _ _ _ _ _ _ _ c.requires.1

pub returns : goal.returns
returns c = (reports-wrote _ _ _ _ _ _ _ c.has_member.ensures _ _ _ _ c.requires.1 _ _ c.needed-n.ensures _ c.word.ensures c.if-not-has_member.false c.if-entered.false c.put_lines.ensures.0, omega (arith, c.put_lines.ensures.1, c.needed-n.ensures.most))
