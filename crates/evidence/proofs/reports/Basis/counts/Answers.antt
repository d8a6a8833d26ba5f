use mathlib.Core.Path.{sym, subst}
use Rattle.protocol.proofs.Bits.{Fits}
use Rattle.pool.proofs.Laws.{at-fits}
use Rattle.evidence.proofs.reports.Basis.counts.Goals as goal

pub is_member-requires : goal.is_member-requires
is_member-requires c = (c.origin.ensures.1, subst (Fits 16) (sym c.at.ensures) (at-fits _ _))
