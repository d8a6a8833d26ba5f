use Rattle.statements.proofs.NoticeSets.{common-bits}
use Rattle.statements.proofs.sets.common.Goals as goal

pub returns : goal.returns
returns c = common-bits c.args.a c.args.b
