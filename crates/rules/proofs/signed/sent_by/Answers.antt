use native.Mathlib.Omega.{arith}
use Rattle.rules.proofs.Scans.{sent-other, sent-far, sent-not, sent-one}
use Rattle.rules.proofs.signed.sent_by.Goals as goal
use Rattle.rules.proofs.signed.sent_by.Goals.{then-kind-via-then-kind, then-kind-via-else-kind+then-j-ge-NOTICES}

pub returns-then-kind : goal.returns-then-kind
returns-then-kind c = elim c.then-kind.branch [
  | then-kind-via-then-kind w ↦ sent-other _ _ _ _ c.kind.ensures.0 w.if-kind.true
  | then-kind-via-else-kind+then-j-ge-NOTICES w ↦ sent-far _ _ _ _ c.notice-j.ensures.0 (omega arith)
]

pub returns-then-same_at : goal.returns-then-same_at
returns-then-same_at c = sent-one _ _ _ _ c.notice-j.ensures.0 _ (c.prepare.ensures.means _) c.same_at.ensures c.if-same_at.true

pub returns : goal.returns
returns c = sent-not _ _ _ _ c.notice-j.ensures.0 _ (c.prepare.ensures.means _) c.same_at.ensures c.if-same_at.false
