use Rattle.statements.proofs.Held.{shortened-is}
use Rattle.statements.proofs.make.shortened.Goals as goal

pub returns : goal.returns
returns c = (shortened-is c.args.h _ c.count.ensures.0, c.count.ensures.1)
