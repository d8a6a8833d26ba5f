use native.Mathlib.Omega.{arith}
use Rattle.votes.proofs.Picked.{word-if, word-not}
use Rattle.votes.proofs.chosen.agreement.Goals as goal

pub returns-then-not-is_agreement : goal.returns-then-not-is_agreement
returns-then-not-is_agreement c = word-not _ c.is_agreement.ensures c.if-not-is_agreement.true

pub returns : goal.returns
returns c = word-if c.is_agreement.ensures c.if-not-is_agreement.false c.top_view.ensures (omega arith)
