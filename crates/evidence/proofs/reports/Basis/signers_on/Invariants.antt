use Rattle.protocol.specs.Evidence.{signs}
use Rattle.views.specs.View.{view_of}
use Rattle.views.specs.Sets.{IsSet}
use Rattle.pool.specs.Pool.{record_up_to}
use Rattle.evidence.specs.Reports.{counts_on}
use Rattle.evidence.proofs.reports.Basis.signers_on.Given as goal

abbrev pub invariant-loop-s : goal.invariant-loop-s
invariant-loop-s l = IsSet l.seen (signs (counts_on l.self.judge l.self.candidates.now l.self.certs.now l.self.keys.now (view_of l.u)) (record_up_to l.words l.ids l.s-index))
