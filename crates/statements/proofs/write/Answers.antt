use native.Mathlib.Omega.{arith}
use mathlib.Core.Path.{sym, ◌∙◌}
use Rattle.statements.proofs.Written.{too_many, too_short, wrote}
use Rattle.statements.proofs.Laws.{means-most}
use Rattle.statements.proofs.write.Goals as goal
use Rattle.statements.proofs.write.Goals.{then-st-gt-LIMIT-via-then-st-gt-LIMIT, then-st-gt-LIMIT-via-else-st-gt-LIMIT+then-not-has_room}

pub returns-then-st-gt-LIMIT : goal.returns-then-st-gt-LIMIT
returns-then-st-gt-LIMIT c =
    elim c.then-st-gt-LIMIT.branch [ then-st-gt-LIMIT-via-then-st-gt-LIMIT w ↦ too_many c.args.st c.args.block.now _ w.if-st-gt-LIMIT.true | then-st-gt-LIMIT-via-else-st-gt-LIMIT+then-not-has_room w ↦ too_short c.args.st c.args.block.now _ w.if-st-gt-LIMIT.false (sym w.has_room.ensures ∙ w.if-not-has_room.true) ]

pub returns : goal.returns
returns c = wrote c.args.st c.args.block.now _ c.if-st-gt-LIMIT.false _ _ (sym c.has_room.ensures ∙ c.if-not-has_room.false) (means-most c.args.st c.args.block.now (omega arith) (omega arith) (omega arith) (omega arith) c.if-st-gt-LIMIT.false) c.put_statement.ensures
