use native.Mathlib.Omega.{arith}
use Rattle.host.proofs.Loading.{stored}
use Rattle.host.proofs.held.store.Goals as goal

pub returns : goal.returns
returns c = stored c.args.c _ _ _ _ _ c.put_entered.ensures c.put_times.ensures c.put_notices.ensures (c.from.ensures, omega (arith, c.from.ensures)) c.word_of.ensures
