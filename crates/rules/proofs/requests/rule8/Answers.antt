use Rattle.rules.proofs.Applied.{stop, go, done, does-any, eighth, holds_asked}
use Rattle.rules.proofs.requests.rule8.Goals as goal
use Rattle.rules.proofs.requests.rule8.Goals.{else-s-via-then-s+else-not-record_holds, else-s-via-else-s}

pub returns-then-not-record_holds : goal.returns-then-not-record_holds
returns-then-not-record_holds c = does-any (eighth _ _) (go _ _ _ _ c.if-s.true (go _ _ _ _ (holds_asked _ _ _ c.join.ensures c.record_holds.ensures c.if-not-record_holds.true) (done _)))

pub returns : goal.returns
returns c = elim c.else-s.branch [
  | else-s-via-then-s+else-not-record_holds w ↦ does-any (eighth _ _) (go _ _ _ _ w.if-s.true (stop _ _ _ (holds_asked _ _ _ w.join.ensures w.record_holds.ensures w.if-not-record_holds.false)))
  | else-s-via-else-s w ↦ does-any (eighth _ _) (stop _ _ _ w.if-s.false)
]
