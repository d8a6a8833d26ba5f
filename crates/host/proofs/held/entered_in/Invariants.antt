use Rattle.host.proofs.Loading.{stored_at, Filled}
use Rattle.host.proofs.held.entered_in.Given as goal

abbrev pub invariant-loop-i : goal.invariant-loop-i
invariant-loop-i l = Filled (stored_at l.fields) 16 l.views l.i
