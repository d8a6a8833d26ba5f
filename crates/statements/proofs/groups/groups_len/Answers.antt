use native.Mathlib.Omega.{arith}
use mathlib.Core.Path.{sym, ap}
use lib.ListN.{length}
use Rattle.statements.specs.Block.{group_at}
use Rattle.statements.specs.Parts.{group_text}
use Rattle.statements.proofs.Written.{groups_none, groups-next-size}
use Rattle.statements.proofs.groups.groups_len.Goals as goal

pub loop-j-init : goal.loop-j-init
loop-j-init c = (sym (ap length (groups_none (group_at c.args.block.now))), omega arith)

pub loop-j-preserved : goal.loop-j-preserved
loop-j-preserved c = (omega (arith, c.loop-j.invariant.0, c.group_len-size.ensures.0, ap (λ g. length (group_text g)) c.told_at.ensures, groups-next-size (group_at c.args.block.now) c.loop-j.j), omega (arith, c.loop-j.invariant.1, c.group_len-size.ensures.1))
