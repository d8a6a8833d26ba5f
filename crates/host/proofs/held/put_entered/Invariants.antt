use lib.ListN.{get_or}
use Rattle.host.proofs.Loading.{Stores}
use Rattle.host.proofs.held.put_entered.Given as goal

abbrev pub invariant-loop-i : goal.invariant-loop-i
invariant-loop-i l = Stores l.entered.views (get_or l.initial.words 12 0) l.words l.i
