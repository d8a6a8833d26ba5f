use Rattle.statements.proofs.Tells.{nothing-told}
use Rattle.statements.proofs.block.clear.Goals as goal

pub returns : goal.returns
returns c = nothing-told c.args.block.now c.told-block
