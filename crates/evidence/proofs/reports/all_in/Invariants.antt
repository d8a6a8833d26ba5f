use Rattle.views.specs.View.{views_of}
use Rattle.pool.proofs.Laws.{HeldTo}
use Rattle.evidence.proofs.reports.all_in.Given as goal

abbrev pub invariant-loop-p : goal.invariant-loop-p
invariant-loop-p l = HeldTo (views_of l.list l.n) l.words l.s l.p
