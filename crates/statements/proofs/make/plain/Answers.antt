use Rattle.statements.proofs.Held.{plain-made}
use Rattle.statements.proofs.KindNumbers.{number_is}
use Rattle.statements.proofs.make.plain.Goals as goal

pub returns : goal.returns
returns c = rw (number_is c.args.kind) (plain-made _ c.requires.0 c.requires.1)
