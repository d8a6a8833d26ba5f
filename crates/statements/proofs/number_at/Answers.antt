use mathlib.Core.Path.{sym, ◌∙◌}
use Rattle.statements.proofs.Fields.{number-some}
use Rattle.statements.proofs.number_at.Goals as goal

pub returns : goal.returns
returns c = number-some c.args.s.now c.args.at _ _ c.ranges.most.fits (sym c.comma_at.ensures ∙ c.if-not-comma_at.false) c.read_dec.ensures _ c.bounded.ensures
