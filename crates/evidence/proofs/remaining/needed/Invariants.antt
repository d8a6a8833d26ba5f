use Rattle.views.specs.View.{view_of}
use Rattle.evidence.proofs.Needing as laws
use Rattle.evidence.proofs.remaining.needed.Given as goal

abbrev pub invariant-loop-i : goal.invariant-loop-i
invariant-loop-i l = laws.NeededTo (view_of l.t) l.skipped l.greatest l.needed l.i l.count
