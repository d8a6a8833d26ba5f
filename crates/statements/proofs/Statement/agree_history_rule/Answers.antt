use mathlib.Core.List.{[]}
use Rattle.statements.specs.Meaning.{stmt_of}
use Rattle.statements.proofs.FieldLaws.{agree-history-is}
use Rattle.statements.proofs.Statement.agree_history_rule.Goals as goal

pub returns : goal.returns
unfolding stmt_of
returns c = cc (agree-history-is c.args.n (stmt_of c.args.self.now []) c.requires)
