use native.Mathlib.Omega.{arith}
use mathlib.Core.Path.{◌∙◌}
use Rattle.statements.specs.Meaning.{stmt_of}
use Rattle.statements.proofs.FieldLaws.{rules-long, rules-are, any-block}
use Rattle.statements.proofs.field_rules.keeps_field_rules.Goals as goal

pub returns-then-st-gt-LIMIT : goal.returns-then-st-gt-LIMIT
returns-then-st-gt-LIMIT c = rules-long c.args.st c.args.block.now c.args.notices c.if-st-gt-LIMIT.true

pub returns : goal.returns
unfolding stmt_of
returns c = rules-are c.args.st c.args.block.now c.args.notices _ _ _ _ _ c.min.ensures (omega arith) (omega arith) (omega arith) c.is_view.ensures c.is_view-2.ensures c.each_is_view.ensures (c.kind_rule.ensures ∙ any-block c.args.st c.args.block.now _)
