use Rattle.statements.proofs.NoticeSets.{union-bits}
use Rattle.statements.proofs.sets.either.Goals as goal

pub returns : goal.returns
returns c = union-bits c.args.a c.args.b
