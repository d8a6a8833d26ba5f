use Rattle.bench.proofs.States.{at_told, at-untold}
use Rattle.bench.proofs.state.lie_line.Goals as goal

pub returns-in_default : goal.returns-in_default
returns-in_default c = at-untold c.args.text.now _ c.in_default.ensures c.requires.1 (c.no_statement.ensures.pools _ c.requires.0)

pub lie-requires : goal.lie-requires
lie-requires c = (c.requires.0, c.in-Some.ensures.short, c.in-Some.ensures.near)

pub returns : goal.returns
returns c = at_told c.args.text.now _ _ c.in-Some.ensures c.lie.ensures
