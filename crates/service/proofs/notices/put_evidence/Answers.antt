use mathlib.Core.Path.{refl}
use native.Mathlib.Omega.{arith}
use Rattle.text.proofs.Stores.{wrote_as}
use Rattle.service.proofs.NoticeLaws.{held-conflict, held_none, held-stored, held-unstored}
use Rattle.service.proofs.notices.put_evidence.Goals as goal

pub returns-then-e : goal.returns-then-e
returns-then-e c = (held-conflict _ _ _ _ _ _ _ c.if-e.true, omega arith)

pub returns-then-not-has : goal.returns-then-not-has
returns-then-not-has c = (wrote_as (held_none _ _ _ c.args.certs.now c.args.j c.if-e.false _ c.has.ensures c.if-not-has.true) c.write_text.ensures, omega (arith, c.write_text.ensures.next))

pub returns-then-not-has-2 : goal.returns-then-not-has-2
returns-then-not-has-2 c = (wrote_as (held-unstored _ _ _ c.args.certs.now c.args.j c.if-e.false _ c.has.ensures _ _ c.if-not-has.false refl c.acked_by-acked.ensures _ c.has-2.ensures c.if-not-has-2.true) c.put_certificate.ensures.0, c.put_certificate.ensures.1)

pub returns : goal.returns
returns c = (wrote_as (held-stored _ _ _ c.args.certs.now c.args.j c.if-e.false _ c.has.ensures _ _ c.if-not-has.false refl c.acked_by-acked.ensures _ c.has-2.ensures _ c.if-not-has-2.false c.stored_by-by.ensures) c.put_certificate-2.ensures.0, c.put_certificate-2.ensures.1)
