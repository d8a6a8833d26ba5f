use Rattle.views.specs.View.{views_of}
use Rattle.evidence.specs.Reports.{counts_among}
use Rattle.evidence.proofs.Listing.{Sifted}
use Rattle.evidence.proofs.merging.among_in.Given as goal

abbrev pub invariant-loop-s : goal.invariant-loop-s
invariant-loop-s l = Sifted (counts_among l.basis.judge l.basis.candidates.now l.basis.certs.now l.basis.keys.now (views_of l.needed l.n)) l.words l.ids l.listed l.s-index l.count
