use borrow.Author.Tests.{not-true, not-false}
use Rattle.rules.proofs.Scans.{marks-at}
use Rattle.rules.proofs.Notices.{fifth-off, fifth-rests, fifth-acks, fifth-never}
use Rattle.rules.proofs.notice.rule5.Goals as goal

pub returns-then-not-s : goal.returns-then-not-s
returns-then-not-s c = fifth-off _ _ _ _ _ (not-true _ c.if-not-s.true)

pub returns-in_err-j : goal.returns-in_err-j
returns-in_err-j c = rw c.from_residual.ensures (fifth-rests _ _ _ _ _ (marks-at _ _ _ c.word.ensures c.notices_at-acked.ensures) c.acks_due-due.ensures (not-false _ c.if-not-s.false) c.in_err-j.ensures)

pub returns-in_err-m : goal.returns-in_err-m
returns-in_err-m c = absurd (fifth-never _ _ _ _ c.args.s (marks-at _ _ _ c.word.ensures c.notices_at-acked.ensures) c.acks_due-due.ensures c.in_ok-j.ensures c.in_err-m.ensures)

pub returns : goal.returns
returns c = fifth-acks _ _ _ _ _ (marks-at _ _ _ c.word.ensures c.notices_at-acked.ensures) c.acks_due-due.ensures c.in_ok-j.ensures (not-false _ c.if-not-s.false) _ c.in_ok-m.ensures
