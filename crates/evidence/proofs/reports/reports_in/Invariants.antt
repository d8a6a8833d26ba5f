use Rattle.protocol.specs.Statement.{is_kind}
use Rattle.evidence.proofs.Listing.{Sifted}
use Rattle.evidence.proofs.reports.reports_in.Given as goal

abbrev pub invariant-loop-s : goal.invariant-loop-s
invariant-loop-s l = Sifted (is_kind 5) l.words l.ids l.listed l.s-index l.count
