use Rattle.engine.proofs.Turned.{ring-is}
use Rattle.engine.proofs.turn.ring_of.Goals as goal

pub returns : goal.returns
returns c = ring-is c.args.c _ c.word.ensures
