use Rattle.views.specs.View.{view_of}
use Rattle.pool.proofs.Records.{Waiting}
use Rattle.evidence.specs.Reports.{counts_on}
use Rattle.evidence.proofs.reports.Basis.count_on.Given as goal

abbrev pub invariant-loop-i : goal.invariant-loop-i
invariant-loop-i l = Waiting l.words l.ids (view_of l.u) (counts_on l.self.judge l.self.candidates.now l.self.certs.now l.self.keys.now (view_of l.u)) l.i l.a
