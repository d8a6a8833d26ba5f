use native.Mathlib.Omega.{arith}
use Rattle.host.proofs.Loading.{visit-first, visit-next, visit-last, notice-is, in-neither, further}
use Rattle.host.proofs.held.notices_in.Goals as goal

pub loop-j-init : goal.loop-j-init
loop-j-init c = visit-first (in-neither _ _ c.either-some.ensures) c.next_in-j.ensures

pub loop-j-smaller : goal.loop-j-smaller
loop-j-smaller c = omega (arith, further c.next_in-j-in-loop-j.ensures c.loop-j-test.true)

pub loop-j-preserved : goal.loop-j-preserved
loop-j-preserved c = visit-next (in-neither _ _ c.either-some.ensures) _ c.loop-j.invariant c.loop-j-test.true (notice-is _ _ c.binding_in.ensures) c.next_in-j-in-loop-j.ensures

pub returns : goal.returns
returns c = visit-last c.loop-j.invariant c.loop-j-test.false
