use native.Mathlib.Omega.{arith}
use mathlib.Core.Path.{refl, ap, ap₂, ◌∙◌}
use mathlib.Core.Bool.{◌&&◌, and-false}
use lib.ListN.{get_or}
use Rattle.protocol.specs.View.{member}
use Rattle.views.specs.Held.{view_is}
use Rattle.rules.proofs.Scans.{in-far, in-outside, in_one}
use Rattle.rules.proofs.signed.prepared_by.Goals as goal
use Rattle.rules.proofs.signed.prepared_by.Goals.{else-is_own-via-then-is_own+else-has_member, else-is_own-via-else-is_own}

pub returns-then-j-ge-NOTICES : goal.returns-then-j-ge-NOTICES
returns-then-j-ge-NOTICES c = in-far _ _ _ _ c.notice-j.ensures.0 (omega arith)

pub returns-then-has_member : goal.returns-then-has_member
returns-then-has_member c = in_one _ _ _ _ c.notice-j.ensures.0 _ c.is_own.ensures _ c.has_member.ensures (ap₂ ◌&&◌ c.if-is_own.true c.if-has_member.true)

pub returns : goal.returns
returns c = elim c.else-is_own.branch [
  | else-is_own-via-then-is_own+else-has_member w ↦ in-outside _ _ _ _ c.notice-j.ensures.0 _ c.is_own.ensures _ w.has_member.ensures (ap (λ m. c.is_own.result && m) w.if-has_member.false ∙ and-false _)
  | else-is_own-via-else-is_own w ↦ in-outside _ _ _ _ c.notice-j.ensures.0 _ c.is_own.ensures _ refl (ap (λ b. b && member (view_is c.args.t) (get_or c.args.senders.now c.notice-j.result 0)) w.if-is_own.false)
]
