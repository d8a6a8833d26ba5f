use mathlib.Core.List.{[]}
use Rattle.statements.proofs.FieldLaws.{no-groups-is}
use Rattle.statements.proofs.Statement.no_groups.Goals as goal

pub returns : goal.returns
returns c = no-groups-is c.args.self.now [] c.requires
