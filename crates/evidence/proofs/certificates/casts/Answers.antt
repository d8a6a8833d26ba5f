use native.Mathlib.Omega.{arith}
use Rattle.std.proofs.lemmas.Bool.Decides.{nat_tests}
use Rattle.protocol.specs.Statement.{is_kind}
use Rattle.evidence.specs.Casts.{cast_for}
use Rattle.statements.proofs.KindNumbers.{number_is}
use Rattle.evidence.proofs.Senders.{payload-of}
use Rattle.evidence.proofs.certificates.casts.Goals as goal

pub returns-then-notice_of-j : goal.returns-then-notice_of-j
unfolding cast_for is_kind
returns-then-notice_of-j c = let e = payload-of _ _ _ _ c.kind.ensures.0 (λ q. grind (arith, nat_tests, q, number_is c.args.kind)) c.payload.ensures in grind (arith, nat_tests, number_is c.args.kind)

pub returns-else-notice_of-j : goal.returns-else-notice_of-j
unfolding cast_for is_kind
returns-else-notice_of-j c = grind (arith, nat_tests, number_is c.args.kind)
