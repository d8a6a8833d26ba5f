use mathlib.Core.Path.{◌≡◌}
use mathlib.Core.Bool.{true}
use Rattle.protocol.specs.Lists.{all}
use Rattle.views.specs.View.{views_of}
use Rattle.pool.specs.Pool.{record_in}
use Rattle.evidence.specs.Reports.{has_reports}
use Rattle.evidence.proofs.reports.reported.Given as goal

abbrev pub invariant-loop-u : goal.invariant-loop-u
invariant-loop-u l = (all (has_reports l.basis.judge l.basis.candidates.now l.basis.certs.now l.basis.keys.now (record_in l.words l.listed)) (views_of l.u-items l.u-index) ≡ true)
