use native.Mathlib.Omega.{arith}
use Rattle.std.proofs.lemmas.Bool.Decides.{nat_tests}
use Rattle.protocol.specs.Statement.{is_kind}
use Rattle.evidence.specs.Shown.{certifies_by}
use Rattle.evidence.proofs.Senders.{payload-of}
use Rattle.evidence.proofs.certificates.is_certifying.Goals as goal

pub returns-then-j-min : goal.returns-then-j-min
unfolding certifies_by is_kind
returns-then-j-min c = let e = payload-of _ _ _ _ c.kind.ensures.0 (λ q. grind (arith, nat_tests, q)) c.payload.ensures in grind (arith, nat_tests)

pub returns-else-j-min : goal.returns-else-j-min
unfolding certifies_by is_kind
returns-else-j-min c = grind (arith, nat_tests)
