use mathlib.Core.List.{[]}
use Rattle.statements.specs.Meaning.{stmt_of}
use Rattle.statements.proofs.FieldLaws.{wish-is}
use Rattle.statements.proofs.Statement.wish_rule.Goals as goal

pub returns : goal.returns
unfolding stmt_of
returns c = cc (wish-is c.args.n (stmt_of c.args.self.now []) c.requires.0 c.requires.1)
