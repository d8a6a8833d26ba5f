use mathlib.Core.Path.{sym, ◌∙◌}
use Rattle.rules.proofs.Applied.{stop, go, done, does-any, holds_asked}
use Rattle.rules.proofs.Notices.{ninth}
use Rattle.rules.proofs.requests.rule9.Goals as goal
use Rattle.rules.proofs.requests.rule9.Goals.{else-s-via-then-s+then-not-record_holds+else-may_leave, else-s-via-then-s+else-not-record_holds, else-s-via-else-s}

pub returns-then-may_leave : goal.returns-then-may_leave
returns-then-may_leave c = does-any (ninth _ _) (go _ _ _ _ c.if-s.true (go _ _ _ _ (holds_asked _ _ _ c.leave.ensures c.record_holds.ensures c.if-not-record_holds.true) (go _ _ _ _ (sym c.may_leave.ensures ∙ c.if-may_leave.true) (done _))))

pub returns : goal.returns
returns c = elim c.else-s.branch [
  | else-s-via-then-s+then-not-record_holds+else-may_leave w ↦ does-any (ninth _ _) (go _ _ _ _ w.if-s.true (go _ _ _ _ (holds_asked _ _ _ w.leave.ensures w.record_holds.ensures w.if-not-record_holds.true) (stop _ _ _ (sym w.may_leave.ensures ∙ w.if-may_leave.false))))
  | else-s-via-then-s+else-not-record_holds w ↦ does-any (ninth _ _) (go _ _ _ _ w.if-s.true (stop _ _ _ (holds_asked _ _ _ w.leave.ensures w.record_holds.ensures w.if-not-record_holds.false)))
  | else-s-via-else-s w ↦ does-any (ninth _ _) (stop _ _ _ w.if-s.false)
]
