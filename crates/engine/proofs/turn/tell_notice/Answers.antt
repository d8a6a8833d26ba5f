use Rattle.engine.proofs.Numbers.{told-by}
use Rattle.engine.proofs.turn.tell_notice.Goals as goal

pub returns : goal.returns
returns c = told-by _ _ c.args.b c.args.certified c.args.certs.now _ c.has.ensures c.tell.ensures
