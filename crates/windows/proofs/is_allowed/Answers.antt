use Rattle.std.proofs.Common.{arith}
use Rattle.std.proofs.lemmas.Bool.Decides.{nat_tests}
use Rattle.protocol.specs.Window.{window_allowed}
use Rattle.windows.proofs.is_allowed.Goals as goal

pub returns-then-first_of-end_of : goal.returns-then-first_of-end_of
unfolding window_allowed
returns-then-first_of-end_of c = grind (arith, nat_tests)

pub returns-else-first_of-end_of : goal.returns-else-first_of-end_of
unfolding window_allowed
returns-else-first_of-end_of c = grind (arith, nat_tests)
