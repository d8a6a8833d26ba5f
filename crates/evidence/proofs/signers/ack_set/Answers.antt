use native.Mathlib.Omega.{arith}
use Rattle.evidence.proofs.Senders.{senders-count}
use Rattle.evidence.proofs.Behind.{acks-far, acks-unprepared, acks-prepared}
use Rattle.evidence.proofs.signers.ack_set.Goals.{then-notice-min-via-then-notice-min, then-notice-min-via-else-notice-min+then-not-is_prepared}
use Rattle.evidence.proofs.signers.ack_set.Goals as goal

pub returns-then-notice-min : goal.returns-then-notice-min
returns-then-notice-min c = elim c.then-notice-min.branch [
  | then-notice-min-via-then-notice-min w ↦ acks-far _ _ _ _ _ (omega (arith, senders-count c.args.senders.now c.args.ring.notices, c.min.ensures, c.from-notice.ensures, w.if-notice-min.true))
  | then-notice-min-via-else-notice-min+then-not-is_prepared w ↦ acks-unprepared _ _ _ _ _ (omega (arith, senders-count c.args.senders.now c.args.ring.notices, c.min.ensures, c.from-notice.ensures, w.if-notice-min.false)) _ (rw c.from-notice.ensures at w.is_prepared.ensures) w.if-not-is_prepared.true
]

pub returns : goal.returns
returns c = acks-prepared _ _ _ _ _ (omega (arith, senders-count c.args.senders.now c.args.ring.notices, c.min.ensures, c.from-notice.ensures, c.if-notice-min.false)) _ (rw c.from-notice.ensures at c.is_prepared.ensures) _ c.if-not-is_prepared.false c.acked_by.ensures
