use native.Mathlib.Omega.{arith}
use Rattle.std.proofs.lemmas.Bool.Decides.{nat_tests}
use Rattle.evidence.specs.Shown.{prepares_one}
use Rattle.evidence.proofs.Senders.{senders-count}
use Rattle.evidence.proofs.prepares.is_prepare.Goals as goal

pub returns-then-j-min : goal.returns-then-j-min
unfolding prepares_one
returns-then-j-min c = let e = senders-count c.args.senders.now c.args.count in grind (arith, nat_tests)

pub returns-else-j-min : goal.returns-else-j-min
unfolding prepares_one
returns-else-j-min c = let e = senders-count c.args.senders.now c.args.count in grind (arith, nat_tests)
