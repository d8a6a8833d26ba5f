use Rattle.schedule.specs.declared.verb.Verb.TheVariants.{Join, Leave, All}
use Rattle.schedule.proofs.Commands.{named_none, named_some, last-named}
use Rattle.schedule.proofs.line.read_named.Goals as goal

pub returns-in_err-k : goal.returns-in_err-k
returns-in_err-k c = rw c.from_residual.ensures (named_none c.args.line.now _ _ c.requires c.in_err-k.ensures)

pub returns-in-Join : goal.returns-in-Join
returns-in-Join c = named_some c.args.line.now _ _ _ Join c.in-Join.is c.requires c.in_ok-k.ensures

pub returns-in-Leave : goal.returns-in-Leave
returns-in-Leave c = named_some c.args.line.now _ _ _ Leave c.in-Leave.is c.requires c.in_ok-k.ensures

pub returns-in_default : goal.returns-in_default
returns-in_default c = named_some c.args.line.now _ _ _ All (last-named _ c.in_default.not-Join c.in_default.not-Leave c.requires.named) c.requires c.in_ok-k.ensures
