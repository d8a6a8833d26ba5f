use mathlib.Core.Path.{sym, ◌∙◌}
use Rattle.schedule.proofs.Lies.{no-comma, with-comma}
use Rattle.schedule.proofs.line.read_lie.Goals as goal

pub returns-then-comma_at : goal.returns-then-comma_at
returns-then-comma_at c = with-comma c.args.line.now c.requires (sym c.comma_at.ensures ∙ c.if-comma_at.true)

pub returns-else-comma_at : goal.returns-else-comma_at
returns-else-comma_at c = no-comma c.args.line.now c.requires (sym c.comma_at.ensures ∙ c.if-comma_at.false)
