use native.Mathlib.Omega.{arith}
use mathlib.Core.Path.{sym, ◌∙◌}
use Rattle.text.proofs.Laws.{comma-in}
use Rattle.schedule.proofs.Fields.{set-none, set-read}
use Rattle.schedule.proofs.line.set_at.Goals as goal

pub returns-then-not-comma_at : goal.returns-then-not-comma_at
returns-then-not-comma_at c = set-none c.args.line.now c.args.at (sym c.comma_at.ensures ∙ c.if-not-comma_at.true)

pub overflow_add-at : goal.overflow_add-at
overflow_add-at c = omega (arith, comma-in c.args.line.now c.args.at (sym c.comma_at.ensures ∙ c.if-not-comma_at.false))

pub returns : goal.returns
returns c = set-read c.args.line.now c.args.at (sym c.comma_at.ensures ∙ c.if-not-comma_at.false) _ c.read_hex.ensures
