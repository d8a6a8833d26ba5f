use Rattle.std.proofs.Common.{arith}
use Rattle.std.proofs.lemmas.Bool.Decides.{nat_tests}
use Rattle.protocol.specs.Window.{is_inside}
use Rattle.windows.proofs.is_inside.Goals as goal

pub returns-then-first_of-m : goal.returns-then-first_of-m
unfolding is_inside
returns-then-first_of-m c = grind (arith, nat_tests)

pub returns-else-first_of-m : goal.returns-else-first_of-m
unfolding is_inside
returns-else-first_of-m c = grind (arith, nat_tests)
