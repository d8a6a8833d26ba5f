use native.Mathlib.Omega.{arith}
use Rattle.std.proofs.lemmas.Bool.Decides.{nat_tests}
use Rattle.protocol.specs.Statement.{is_kind}
use Rattle.protocol.specs.Evidence.{prepares}
use Rattle.evidence.proofs.Senders.{sender-at}
use Rattle.evidence.proofs.prepares.is_prepare_of.Goals as goal

pub returns-then-origin-from : goal.returns-then-origin-from
unfolding prepares is_kind
returns-then-origin-from c = let e = sender-at c.args.senders.now c.args.count c.args.j c.requires in grind (arith, nat_tests)

pub returns-else-origin-from : goal.returns-else-origin-from
unfolding prepares is_kind
returns-else-origin-from c = let e = sender-at c.args.senders.now c.args.count c.args.j c.requires in grind (arith, nat_tests)
