use native.Mathlib.Omega.{arith}
use Rattle.protocol.specs.View.{member}
use Rattle.views.specs.Held.{view_is}
use Rattle.views.proofs.Sets.{set_of-lt}
use Rattle.views.proofs.Held.{member-bit}
use Rattle.views.proofs.View.has_member.Goals as goal

pub has-requires : goal.has-requires
has-requires c = omega (arith, c.members.ensures, set_of-lt 16 (member (view_is c.args.self)))

pub returns : goal.returns
returns c = member-bit _ _ _ c.members.ensures c.has.ensures (omega arith)
