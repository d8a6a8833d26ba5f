use mathlib.Core.List.{[]}
use native.Mathlib.Omega.{arith}
use Rattle.statements.proofs.FieldLaws.{views-rule-long, views-rule-is}
use Rattle.statements.proofs.Statement.views_rule.Goals as goal

pub returns-then-h-gt-LIMIT : goal.returns-then-h-gt-LIMIT
returns-then-h-gt-LIMIT c = views-rule-long c.args.self.now [] c.if-h-gt-LIMIT.true

pub returns : goal.returns
returns c = views-rule-is c.args.self.now [] _ _ (omega arith) c.rising.ensures c.each_has_members.ensures
