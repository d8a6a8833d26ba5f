use Rattle.std.specs.Prelude.{Some}
use Rattle.statements.proofs.GroupLaws.{told-report, told-other}
use Rattle.statements.proofs.groups.told_from.Goals as goal

pub returns-then-kind : goal.returns-then-kind
returns-then-kind c = told-report _ _ _ _ c.groups_at.new.block 0 (Some c.in_ok-next.next) c.if-kind.true c.requires c.in_ok-next.ensures

pub returns : goal.returns
returns c = told-other _ _ _ _ _ _ c.if-kind.false c.payload_at.ensures
