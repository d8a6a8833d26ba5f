use mathlib.Core.Path.{◌∙◌}
use Rattle.engine.proofs.Situations.{leaves-never, leaves-inside}
use Rattle.engine.proofs.situation.may_leave.Goals as goal

pub returns-then-c : goal.returns-then-c
returns-then-c c = leaves-inside c.args.c _ _ c.if-c.true c.is_open.ensures

pub returns-else-c : goal.returns-else-c
returns-else-c c = c.if-c.false ∙ leaves-never c.args.c _ c.if-c.false
