use mathlib.Core.Path.{ap}
use Rattle.protocol.specs.Statement.{agree_view}
use Rattle.views.specs.Held.{view_is}
use Rattle.rules.proofs.Applied.{stop, go, done, does-any, third, members-asked, top-differs, made_as, holds_asked}
use Rattle.rules.proofs.membership.rule3.Goals as goal
use Rattle.rules.proofs.membership.rule3.Goals.{else-s-via-then-s+then-has_members+then-ne+else-not-record_holds, else-s-via-then-s+then-has_members+else-ne, else-s-via-then-s+else-has_members, else-s-via-else-s}

pub returns-then-not-record_holds : goal.returns-then-not-record_holds
returns-then-not-record_holds c = does-any (third _ _) (go _ _ _ _ c.if-s.true (go _ _ _ _ (members-asked _ _ c.of_word-w.ensures c.has_members.ensures c.if-has_members.true) (go _ _ _ _ (top-differs _ _ c.of_word-w.ensures c.ne.ensures c.if-ne.true) (go _ _ _ _ (holds_asked _ _ _ (made_as (ap (agree_view c.args.s.number (view_is c.args.s.top)) c.of_word-w.ensures) c.agree_view.ensures) c.record_holds.ensures c.if-not-record_holds.true) (done _)))))

pub returns : goal.returns
returns c = elim c.else-s.branch [
  | else-s-via-then-s+then-has_members+then-ne+else-not-record_holds w ↦ does-any (third _ _) (go _ _ _ _ w.if-s.true (go _ _ _ _ (members-asked _ _ c.of_word-w.ensures w.has_members.ensures w.if-has_members.true) (go _ _ _ _ (top-differs _ _ c.of_word-w.ensures w.ne.ensures w.if-ne.true) (stop _ _ _ (holds_asked _ _ _ (made_as (ap (agree_view c.args.s.number (view_is c.args.s.top)) c.of_word-w.ensures) w.agree_view.ensures) w.record_holds.ensures w.if-not-record_holds.false)))))
  | else-s-via-then-s+then-has_members+else-ne w ↦ does-any (third _ _) (go _ _ _ _ w.if-s.true (go _ _ _ _ (members-asked _ _ c.of_word-w.ensures w.has_members.ensures w.if-has_members.true) (stop _ _ _ (top-differs _ _ c.of_word-w.ensures w.ne.ensures w.if-ne.false))))
  | else-s-via-then-s+else-has_members w ↦ does-any (third _ _) (go _ _ _ _ w.if-s.true (stop _ _ _ (members-asked _ _ c.of_word-w.ensures w.has_members.ensures w.if-has_members.false)))
  | else-s-via-else-s w ↦ does-any (third _ _) (stop _ _ _ w.if-s.false)
]
