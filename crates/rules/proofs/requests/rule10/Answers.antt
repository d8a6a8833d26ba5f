use borrow.Author.Tests.{not-true, not-false}
use Rattle.rules.proofs.Applied.{holds_asked}
use Rattle.rules.proofs.Notices.{tenth-none, tenth-off, tenth-left, tenth-rests, tenth-prepares}
use Rattle.rules.proofs.requests.rule10.Goals as goal
use Rattle.rules.proofs.requests.rule10.Goals.{then-s-eq0-via-then-s-eq0, then-s-eq0-via-else-s-eq0+then-not-s, then-s-eq0-via-else-s-eq0+else-not-s+then-record_holds}

pub returns-then-s-eq0 : goal.returns-then-s-eq0
returns-then-s-eq0 c = elim c.then-s-eq0.branch [
  | then-s-eq0-via-then-s-eq0 w ↦ tenth-none _ _ _ w.if-s-eq0.true
  | then-s-eq0-via-else-s-eq0+then-not-s w ↦ tenth-off _ _ _ (not-true _ w.if-not-s.true)
  | then-s-eq0-via-else-s-eq0+else-not-s+then-record_holds w ↦ tenth-left _ _ _ (holds_asked _ _ _ w.leave.ensures w.record_holds.ensures w.if-record_holds.true)
]

pub returns-in_err-j : goal.returns-in_err-j
returns-in_err-j c = rw c.from_residual.ensures (tenth-rests _ _ _ (not-false _ c.if-not-s.false) (holds_asked _ _ _ c.leave.ensures c.record_holds.ensures c.if-record_holds.false) c.sent-sent.ensures c.except.ensures c.in_err-j.ensures)

pub returns : goal.returns
returns c = tenth-prepares _ _ _ (not-false _ c.if-not-s.false) (holds_asked _ _ _ c.leave.ensures c.record_holds.ensures c.if-record_holds.false) c.sent-sent.ensures c.except.ensures c.in_ok-j.ensures
