use native.Mathlib.Omega.{arith}
use Rattle.protocol.specs.Statement.{no_at, no_view_field, no_views}
use mathlib.Core.Bool.{◌&&◌}
use mathlib.Core.List.{[]}
use Rattle.statements.specs.Meaning.{stmt_of}
use Rattle.statements.proofs.FieldLaws.{with-payload, prepare-is}
use Rattle.statements.proofs.Statement.prepare_rule.Goals as goal

pub returns : goal.returns
unfolding stmt_of
returns c = cc (with-payload c.args.self.now [] (λ e. omega arith) (no_at (stmt_of c.args.self.now []) && no_view_field (stmt_of c.args.self.now [])) (no_views (stmt_of c.args.self.now [])), prepare-is c.args.n (stmt_of c.args.self.now []) c.requires)
