use native.Mathlib.Omega.{arith}
use mathlib.Core.Path.{◌∙◌}
use Rattle.evidence.proofs.Taken.{in-words}
use Rattle.evidence.proofs.reports.is_in.Goals as goal

pub returns : goal.returns
returns c = c.contains.ensures.value ∙ in-words _ _ _ (omega (arith, c.requires)) c.ranges.v.fits c.fits-list
