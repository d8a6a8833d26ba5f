use native.Mathlib.Omega.{arith}
use mathlib.Core.Path.{sym, ◌∙◌}
use Rattle.statements.proofs.Fields.{view-refused, view-low, view-some}
use Rattle.statements.proofs.view_at.Goals as goal

pub returns-in_err-sets : goal.returns-in_err-sets
returns-in_err-sets c = rw c.from_residual.ensures (view-refused c.args.s.now c.args.at (sym c.comma_at.ensures ∙ c.if-not-comma_at.false) (sym c.in_err-sets.ensures))

pub overflow_cast-result : goal.overflow_cast-result
overflow_cast-result c = omega (arith, view-low c.args.s.now c.args.at (sym c.comma_at.ensures ∙ c.if-not-comma_at.false) c.in_ok-sets.sets (sym c.in_ok-sets.ensures))

pub returns : goal.returns
returns c = view-some c.args.s.now c.args.at (sym c.comma_at.ensures ∙ c.if-not-comma_at.false) c.in_ok-sets.sets (sym c.in_ok-sets.ensures)
