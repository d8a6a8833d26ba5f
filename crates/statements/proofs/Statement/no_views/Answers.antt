use mathlib.Core.List.{[]}
use Rattle.statements.proofs.FieldLaws.{no-views-is}
use Rattle.statements.proofs.Statement.no_views.Goals as goal

pub returns : goal.returns
returns c = no-views-is c.args.self.now []
