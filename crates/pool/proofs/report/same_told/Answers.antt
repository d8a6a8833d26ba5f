use Rattle.std.proofs.Common.{arith}
use Rattle.std.proofs.lemmas.Bool.Decides.{nat_tests}
use Rattle.protocol.specs.Statement.{same_group}
use Rattle.pool.proofs.Reports.{stored-same, stored-other}
use Rattle.pool.proofs.report.same_told.Goals as goal

pub returns-then-a-b : goal.returns-then-a-b
unfolding same_group
returns-then-a-b c = grind (arith, nat_tests, stored-same c.args.a.stored c.args.b.stored c.args.a.kept c.args.b.kept)

pub returns-else-a-b : goal.returns-else-a-b
unfolding same_group
returns-else-a-b c = grind (arith, nat_tests, stored-other c.args.a.stored c.args.b.stored c.args.a.kept c.args.b.kept)
