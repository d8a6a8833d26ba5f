use mathlib.Core.List.{[]}
use Rattle.statements.proofs.FieldLaws.{report-rule-is}
use Rattle.statements.proofs.Statement.report_rule.Goals as goal

pub returns : goal.returns
returns c = report-rule-is c.args.self.now [] c.requires _ c.args.n c.min.ensures
