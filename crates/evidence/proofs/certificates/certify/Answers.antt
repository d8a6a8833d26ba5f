use native.Mathlib.Omega.{arith}
use mathlib.Core.Path.{sym, ap, ◌∙◌}
use Rattle.evidence.proofs.Taken.{below-taken, at-taken, end-taken}
use Rattle.views.specs.Tally.{place_in}
use Rattle.evidence.proofs.Senders.{senders-count, senders-most, payload-of}
use Rattle.evidence.proofs.Backing.{certifies-fits, certifies-seven}
use Rattle.evidence.proofs.Acked as laws
use Rattle.evidence.proofs.certificates.certify.Goals.{then-not-has, else-not-has+else-m-certs}
use Rattle.evidence.proofs.certificates.certify.Goals as goal

pub loop-x-init : goal.loop-x-init
loop-x-init c = laws.gathered-first _ _ _ _ _ _ c.requires.0 _ _

pub loop-x-preserved-then-not-is_certifying : goal.loop-x-preserved-then-not-is_certifying
loop-x-preserved-then-not-is_certifying c =
    let at = at-taken _ _ _ c.loop-x-test.true in
    let l = below-taken _ _ c.args.groups.now c.loop-x-test.true in
    let p = c.place_of.ensures ∙ ap place_in at in
    laws.gathered-not _ _ _ _ _ _ c.requires.0 _ c.requires.1 (senders-most _ _) c.loop-x.invariant _ p _ (sym (senders-count _ _)) _ c.is_certifying.ensures c.if-not-is_certifying.true

pub bounds-certs-j : goal.bounds-certs-j
bounds-certs-j c = omega (arith, certifies-fits _ _ _ _ _ c.is_certifying.ensures c.if-not-is_certifying.false _ c.notice_of-j.ensures.0)

pub bounds-certs-j-else-not-has : goal.bounds-certs-j-else-not-has
bounds-certs-j-else-not-has c = omega (arith, certifies-fits _ _ _ _ _ c.is_certifying.ensures c.if-not-is_certifying.false _ c.notice_of-j.ensures.0)

pub returns-then-m-certs : goal.returns-then-m-certs
returns-then-m-certs c =
    let at = at-taken _ _ _ c.loop-x-test.true in
    let l = below-taken _ _ c.args.groups.now c.loop-x-test.true in
    let p = c.place_of.ensures ∙ ap place_in at in
    laws.gathered-clash _ _ _ _ _ _ c.requires.0 _ c.requires.1 (senders-most _ _) c.loop-x.invariant _ p _ (sym (senders-count _ _)) _ c.is_certifying.ensures _ _ l c.if-not-is_certifying.false c.notice_of-j.ensures.0 (payload-of _ _ _ _ (sym (certifies-seven _ _ _ _ _ c.is_certifying.ensures c.if-not-is_certifying.false)) (λ q. omega arith) c.payload-m.ensures) c.has.ensures c.if-not-has.false c.if-m-certs.true

pub loop-x-preserved : goal.loop-x-preserved
loop-x-preserved c =
    let at = at-taken _ _ _ c.loop-x-test.true in
    let l = below-taken _ _ c.args.groups.now c.loop-x-test.true in
    let p = c.place_of.ensures ∙ ap place_in at in
    elim c.if-not-has.branch [
      | then-not-has w ↦ rw (w.certs-is, w.some-is) (laws.gathered-start _ _ _ _ _ _ c.requires.0 _ c.requires.1 (senders-most _ _) c.loop-x.invariant _ p _ (sym (senders-count _ _)) _ c.is_certifying.ensures _ _ l c.if-not-is_certifying.false c.notice_of-j.ensures.0 (payload-of _ _ _ _ (sym (certifies-seven _ _ _ _ _ c.is_certifying.ensures c.if-not-is_certifying.false)) (λ q. omega arith) c.payload-m.ensures) c.has.ensures w.if-not-has.true w.with_notice-some.ensures (omega arith) (omega arith))
      | else-not-has+else-m-certs w ↦ rw (w.certs-is, w.some-is) (laws.gathered-same _ _ _ _ _ _ c.requires.0 _ c.requires.1 (senders-most _ _) c.loop-x.invariant _ p _ (sym (senders-count _ _)) _ c.is_certifying.ensures _ _ l c.if-not-is_certifying.false c.notice_of-j.ensures.0 (payload-of _ _ _ _ (sym (certifies-seven _ _ _ _ _ c.is_certifying.ensures c.if-not-is_certifying.false)) (λ q. omega arith) c.payload-m.ensures) c.has.ensures w.if-not-has.false w.if-m-certs.false)
    ]

pub returns : goal.returns
returns c = laws.gathered-end _ _ _ _ _ _ c.requires.0 _ _ _ _ (end-taken _ _ _ (omega (arith, c.requires.0.most)) c.loop-x.auto.x-index-end c.loop-x-test.false) c.loop-x.invariant
