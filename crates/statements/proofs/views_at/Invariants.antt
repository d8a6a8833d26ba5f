use mathlib.Core.Path.{◌≡◌}
use lib.ListN.{length}
use Rattle.statements.specs.Meaning.{first_views, FitsView}
use Rattle.statements.specs.Parts.{comma_view}
use Rattle.statements.proofs.Sequence.{SoFar}
use Rattle.statements.proofs.views_at.Given as goal

abbrev pub invariant-loop-i : goal.invariant-loop-i
invariant-loop-i l = (length l.views ≡ 16) × SoFar comma_view FitsView l.s l.count l.from (first_views l.i l.views) l.at
