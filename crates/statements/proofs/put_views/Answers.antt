use native.Mathlib.Omega.{arith}
use Rattle.std.proofs.Common.{get_or-take}
use Rattle.statements.proofs.Views.{put_first, put_next, blank}
use Rattle.statements.proofs.put_views.Goals as goal

pub loop-v-init : goal.loop-v-init
loop-v-init c = (omega arith, put_first _ _ _)

pub loop-v-preserved : goal.loop-v-preserved
loop-v-preserved c = (omega (arith, c.put_view-at.ensures.0), put_next c.loop-v.v-index c.args.h.now.views c.loop-v.invariant.1 (rw (get_or-take c.args.h.now.len c.args.h.now.views c.loop-v.v-index blank (omega arith)) at c.put_view-at.ensures.1))
