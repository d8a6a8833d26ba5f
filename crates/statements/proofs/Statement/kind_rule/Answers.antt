use mathlib.Core.List.{[]}
use Rattle.statements.specs.Meaning.{stmt_of}
use Rattle.statements.proofs.FieldLaws.{no_kind}
use Rattle.statements.proofs.Statement.kind_rule.Goals as goal

pub returns-in-Err : goal.returns-in-Err
unfolding stmt_of
returns-in-Err c = no_kind c.args.n (stmt_of c.args.self.now []) c.in-Err.ensures.1
