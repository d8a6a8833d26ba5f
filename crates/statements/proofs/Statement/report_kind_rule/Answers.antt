use mathlib.Core.List.{[]}
use Rattle.statements.specs.Meaning.{stmt_of}
use Rattle.statements.proofs.FieldLaws.{report-is}
use Rattle.statements.proofs.Statement.report_kind_rule.Goals as goal

pub returns : goal.returns
unfolding stmt_of
returns c = cc (report-is c.args.n (stmt_of c.args.self.now []) c.requires)
