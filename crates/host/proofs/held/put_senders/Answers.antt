use native.Mathlib.Omega.{arith}
use Rattle.host.proofs.Loading.{put_first, put-sender, put_last}
use Rattle.host.proofs.held.put_senders.Goals as goal

pub loop-j-init : goal.loop-j-init
loop-j-init c = put_first _ c.told-words

pub loop-j-preserved : goal.loop-j-preserved
loop-j-preserved c = put-sender _ c.loop-j.invariant c.loop-j-test.true (c.from.ensures, omega (arith, c.from.ensures, c.fits-senders c.loop-j.j))

pub returns : goal.returns
returns c = put_last c.loop-j.invariant c.loop-j-test.false c.told-senders
