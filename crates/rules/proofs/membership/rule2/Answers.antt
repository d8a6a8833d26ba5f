use mathlib.Core.Path.{refl}
use borrow.Author.Tests.{not-true, not-false}
use Rattle.rules.proofs.Applied.{does, outside, entered-already, not-reported, enters}
use Rattle.rules.proofs.membership.rule2.Goals as goal
use Rattle.rules.proofs.membership.rule2.Goals.{else-has_member-via-then-has_member+then-not-s+else-reported, else-has_member-via-then-has_member+else-not-s, else-has_member-via-else-has_member}

pub reported-requires : goal.reported-requires
reported-requires c = c.requires

pub returns-then-reported : goal.returns-then-reported
returns-then-reported c = does (enters _ _ _ _ c.has_member.ensures c.if-has_member.true (not-true _ c.if-not-s.true) _ c.reported.ensures c.if-reported.true) refl

pub returns : goal.returns
returns c = elim c.else-has_member.branch [
  | else-has_member-via-then-has_member+then-not-s+else-reported w ↦ does (not-reported _ _ _ _ c.has_member.ensures w.if-has_member.true (not-true _ w.if-not-s.true) _ w.reported.ensures w.if-reported.false) refl
  | else-has_member-via-then-has_member+else-not-s w ↦ does (entered-already _ _ _ _ c.has_member.ensures w.if-has_member.true (not-false _ w.if-not-s.false)) refl
  | else-has_member-via-else-has_member w ↦ does (outside _ _ _ _ c.has_member.ensures w.if-has_member.false) refl
]
