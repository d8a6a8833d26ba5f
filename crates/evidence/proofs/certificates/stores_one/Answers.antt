use native.Mathlib.Omega.{arith}
use Rattle.std.proofs.lemmas.Bool.Decides.{nat_tests}
use Rattle.protocol.specs.Statement.{is_kind}
use Rattle.evidence.specs.Shown.{stores_one}
use Rattle.evidence.proofs.Senders.{payload-of}
use Rattle.evidence.proofs.Acked.{bit-near}
use Rattle.evidence.proofs.certificates.stores_one.Goals.{then-kind, else-kind}
use mathlib.Core.Path.{sym, ◌∙◌}
use borrow.Author.Tests.{eqb-true}
use Rattle.evidence.proofs.certificates.stores_one.Goals as goal

pub bounds-certs-j : goal.bounds-certs-j
bounds-certs-j c = elim c.if-kind.branch [
  | then-kind w ↦ bit-near c.args.some _ (omega arith) w.has.ensures (sym w.value-is ∙ c.if-has.true)
  | else-kind w ↦ absurd (w.if-kind.false (eqb-true _ _ (sym w.value-is ∙ c.if-has.true)))
]

pub returns-then-has : goal.returns-then-has
unfolding stores_one is_kind
returns-then-has c = let e = payload-of _ _ _ _ c.kind.ensures.0 (λ q. grind (arith, nat_tests, q)) c.payload.ensures in grind (arith, nat_tests)

pub returns-else-has : goal.returns-else-has
unfolding stores_one is_kind
returns-else-has c = grind (arith, nat_tests)
