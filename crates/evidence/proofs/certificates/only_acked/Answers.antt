use native.Mathlib.Omega.{arith}
use mathlib.Core.Path.{ap, ◌∙◌}
use Rattle.evidence.proofs.Taken.{below-taken, at-taken}
use Rattle.views.specs.Tally.{place_in}
use Rattle.evidence.proofs.Senders.{payload-of}
use Rattle.evidence.proofs.Acked as laws
use Rattle.evidence.proofs.certificates.only_acked.Goals.{in-None, in-Some}
use Rattle.evidence.proofs.certificates.only_acked.Goals as goal

pub loop-x-init : goal.loop-x-init
loop-x-init c = laws.acked-first _ _ _ _ _ _

pub loop-x-preserved-then-kind : goal.loop-x-preserved-then-kind
loop-x-preserved-then-kind c =
    let at = at-taken _ _ _ c.loop-x-test.true in
    let l = below-taken _ _ c.args.groups.now c.loop-x-test.true in
    let p = c.place_of.ensures ∙ ap place_in at in
    laws.found-not _ _ _ _ _ _ c.loop-x.invariant _ p _ c.kind.ensures.0 c.if-kind.true

pub loop-x-preserved : goal.loop-x-preserved
loop-x-preserved c =
    let at = at-taken _ _ _ c.loop-x-test.true in
    let l = below-taken _ _ c.args.groups.now c.loop-x-test.true in
    let p = c.place_of.ensures ∙ ap place_in at in
    elim c.match-one.branch [
      | in-None w ↦ rw w.one-is (laws.found-start _ _ _ _ _ _ c.loop-x.invariant _ p _ c.kind.ensures.0 _ c.notice_of.ensures.0 (payload-of _ _ _ _ c.kind.ensures.0 (λ q. omega (arith, c.if-kind.false)) c.payload.ensures) w.in-None.is l c.if-kind.false)
      | in-Some w ↦ rw w.one-is (laws.found-same _ _ _ _ _ _ c.loop-x.invariant _ p _ c.kind.ensures.0 _ c.notice_of.ensures.0 (payload-of _ _ _ _ c.kind.ensures.0 (λ q. omega (arith, c.if-kind.false)) c.payload.ensures) _ w.in-Some.is _ (rw w.in-Some.other-is at w.eq.ensures) w.if-eq.true)
    ]
