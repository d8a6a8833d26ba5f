use mathlib.Core.Path.{refl}
use Rattle.rules.proofs.Applied.{stop, go, done, does-any, fourth, top-equal, holds_asked}
use Rattle.rules.proofs.membership.rule4.Goals as goal
use Rattle.rules.proofs.membership.rule4.Goals.{then-not-s-via-then-not-s, then-not-s-via-else-not-s+then-eq}

pub returns-then-not-s : goal.returns-then-not-s
returns-then-not-s c = elim c.then-not-s.branch [
  | then-not-s-via-then-not-s w ↦ does-any (fourth _ _ _ refl c.requires.0) (stop _ _ _ w.if-not-s.true)
  | then-not-s-via-else-not-s+then-eq w ↦ does-any (fourth _ _ _ refl c.requires.0) (go _ _ _ _ w.if-not-s.false (stop _ _ _ (top-equal _ _ w.of_word.ensures w.eq.ensures w.if-eq.true)))
]

pub returns-then-record_holds : goal.returns-then-record_holds
returns-then-record_holds c = does-any (fourth _ _ _ c.history_of-h.ensures.0 c.requires.0) (go _ _ _ _ c.if-not-s.false (go _ _ _ _ (top-equal _ _ c.of_word.ensures c.eq.ensures c.if-eq.false) (stop _ _ _ (holds_asked _ _ _ c.agree_history.ensures c.record_holds.ensures c.if-record_holds.true))))

pub returns : goal.returns
returns c = does-any (fourth _ _ _ c.history_of-h.ensures.0 c.requires.0) (go _ _ _ _ c.if-not-s.false (go _ _ _ _ (top-equal _ _ c.of_word.ensures c.eq.ensures c.if-eq.false) (go _ _ _ _ (holds_asked _ _ _ c.agree_history.ensures c.record_holds.ensures c.if-record_holds.false) (done _))))
