use Rattle.rules.proofs.Scans.{Slots}
use Rattle.rules.proofs.made.history_of.Given as goal

abbrev pub invariant-loop-i : goal.invariant-loop-i
invariant-loop-i l = Slots l.views l.list l.i
