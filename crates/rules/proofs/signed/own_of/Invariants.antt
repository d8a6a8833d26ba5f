use Rattle.evidence.proofs.Listing.{Sifted}
use Rattle.rules.proofs.Scans.{is_of}
use Rattle.rules.proofs.signed.own_of.Given as goal

abbrev pub invariant-loop-n : goal.invariant-loop-n
invariant-loop-n l = Sifted (is_of l.k) l.words l.ids l.own l.n-index l.count
