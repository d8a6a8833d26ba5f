use borrow.Author.Tests.{not-true, not-false}
use Rattle.rules.proofs.Scans.{marks-at}
use Rattle.rules.proofs.Notices.{sixth-none, sixth-off, sixth-rests, sixth-stores}
use Rattle.rules.proofs.notice.rule6.Goals as goal
use Rattle.rules.proofs.notice.rule6.Goals.{then-s-eq0-via-then-s-eq0, then-s-eq0-via-else-s-eq0+then-not-s}

pub returns-then-s-eq0 : goal.returns-then-s-eq0
returns-then-s-eq0 c = elim c.then-s-eq0.branch [
  | then-s-eq0-via-then-s-eq0 w ↦ sixth-none _ _ _ w.if-s-eq0.true
  | then-s-eq0-via-else-s-eq0+then-not-s w ↦ sixth-off _ _ _ (not-true _ w.if-not-s.true)
]

pub returns-in_err-j : goal.returns-in_err-j
returns-in_err-j c = rw c.from_residual.ensures (sixth-rests _ _ _ (not-false _ c.if-not-s.false) (marks-at _ _ _ c.word.ensures c.notices_at-stored.ensures) c.except-due.ensures c.in_err-j.ensures)

pub returns : goal.returns
returns c = sixth-stores _ _ _ (not-false _ c.if-not-s.false) (marks-at _ _ _ c.word.ensures c.notices_at-stored.ensures) c.except-due.ensures c.in_ok-j.ensures _ c.kept.ensures
