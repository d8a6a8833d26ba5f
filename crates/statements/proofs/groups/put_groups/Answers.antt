use native.Mathlib.Omega.{arith}
use mathlib.Core.Path.{ap, ◌∙◌}
use lib.ListN.{length}
use lib.Seq.{length-sets}
use Rattle.protocol.specs.Lists.{list_of}
use Rattle.statements.specs.Block.{group_at}
use Rattle.statements.specs.Parts.{group_text, groups_text}
use Rattle.statements.proofs.Written.{groups-first, groups-room, groups-put}
use Rattle.statements.proofs.groups.put_groups.Goals as goal

pub loop-j-init : goal.loop-j-init
loop-j-init c = groups-first (group_at c.args.block.now) _ _

pub put_group-at-requires : goal.put_group-at-requires
put_group-at-requires c = omega (arith, c.requires.1, c.loop-j.invariant.next, ap length c.loop-j.invariant.is ∙ length-sets c.args.out.now c.args.from (groups_text (list_of c.loop-j.j (group_at c.args.block.now))), ap (λ g. length (group_text g)) c.told_at.ensures, groups-room (group_at c.args.block.now) c.args.n c.loop-j.j c.loop-j-test.true)

pub loop-j-preserved : goal.loop-j-preserved
loop-j-preserved c = groups-put (group_at c.args.block.now) c.loop-j.j _ c.told_at.ensures c.loop-j.invariant c.put_group-at.ensures
