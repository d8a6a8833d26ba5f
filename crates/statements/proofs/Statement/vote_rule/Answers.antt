use native.Mathlib.Omega.{arith}
use Rattle.protocol.specs.View.{has_members}
use Rattle.protocol.specs.Statement.{no_view_field, no_views}
use mathlib.Core.Bool.{◌&&◌}
use mathlib.Core.List.{[]}
use Rattle.statements.specs.Meaning.{stmt_of}
use Rattle.statements.proofs.FieldLaws.{with-payload, vote-is}
use Rattle.statements.proofs.Statement.vote_rule.Goals as goal

pub returns : goal.returns
unfolding stmt_of
returns c = cc (with-payload c.args.self.now [] (λ e. omega arith) (has_members 16 (stmt_of c.args.self.now []).at && no_view_field (stmt_of c.args.self.now [])) (no_views (stmt_of c.args.self.now [])), vote-is c.args.n (stmt_of c.args.self.now []) c.requires.0 c.requires.1)
