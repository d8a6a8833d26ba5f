use native.Mathlib.Omega.{arith}
use Rattle.evidence.proofs.Senders.{senders-count, senders-most}
use Rattle.evidence.proofs.Acked as laws
use Rattle.evidence.proofs.certificates.certify_one.Goals.{then-j-min-via-then-j-min, then-j-min-via-else-j-min+then-not-is_prepared}
use Rattle.evidence.proofs.certificates.certify_one.Goals as goal

pub returns-then-j-min : goal.returns-then-j-min
returns-then-j-min c = elim c.then-j-min.branch [
  | then-j-min-via-then-j-min w ↦ laws.one-far _ _ (omega (arith, senders-count c.args.senders.now c.args.count, c.min.ensures, w.if-j-min.true))
  | then-j-min-via-else-j-min+then-not-is_prepared w ↦ laws.one-unprepared _ _ _ w.is_prepared.ensures w.if-not-is_prepared.true
]

pub returns : goal.returns
returns c = laws.one-prepared _ _ _ c.is_prepared.ensures c.args.certs.now c.if-not-is_prepared.false (omega (arith, senders-count c.args.senders.now c.args.count, c.min.ensures, c.if-j-min.false)) (senders-most _ _) c.told-certs c.with_notice.ensures (omega arith)
