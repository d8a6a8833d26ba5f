use borrow.Author.Tests.{not-true, not-false}
use Rattle.rules.proofs.Notices.{seventh-idle, seventh-left, seventh-rests, seventh-delivers}
use Rattle.rules.proofs.notice.rule7.Goals as goal
use Rattle.rules.proofs.notice.rule7.Goals.{then-not-s-via-then-not-s, then-not-s-via-else-not-s+then-s}

pub returns-then-not-s : goal.returns-then-not-s
returns-then-not-s c = elim c.then-not-s.branch [
  | then-not-s-via-then-not-s w ↦ seventh-idle _ _ (not-true _ w.if-not-s.true)
  | then-not-s-via-else-not-s+then-s w ↦ seventh-left _ _ (not-false _ w.if-not-s.false) w.if-s.true
]

pub returns-in_err-j : goal.returns-in_err-j
returns-in_err-j c = rw c.from_residual.ensures (seventh-rests _ _ (not-false _ c.if-not-s.false) c.if-s.false c.common-ready.ensures c.except.ensures c.in_err-j.ensures)

pub returns : goal.returns
returns c = seventh-delivers _ _ (not-false _ c.if-not-s.false) c.if-s.false c.common-ready.ensures c.except.ensures c.in_ok-j.ensures _ c.kept.ensures
