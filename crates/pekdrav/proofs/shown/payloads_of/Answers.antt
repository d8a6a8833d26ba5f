use native.Mathlib.Omega.{arith}
use mathlib.Core.Path.{◌∙◌}
use Rattle.host.proofs.Loading.{visit-first, visit-next, visit-last, further}
use Rattle.pekdrav.proofs.Told.{payload_in, payload-there, payload-none, payloads-all}
use Rattle.pekdrav.proofs.shown.payloads_of.Goals as goal

pub loop-j-init : goal.loop-j-init
loop-j-init c = (λ l. (c.next_in-j.ensures.here l).1, visit-first (payload-none c.args.certified c.args.certs.now) c.next_in-j.ensures)

pub loop-j-smaller : goal.loop-j-smaller
loop-j-smaller c = omega (arith, further c.next_in-j-in-loop-j.ensures c.loop-j-test.true)

pub loop-j-preserved : goal.loop-j-preserved
loop-j-preserved c = (
  λ l. (c.next_in-j-in-loop-j.ensures.here l).1,
  visit-next {f = payload_in c.args.certified c.args.certs.now} (payload-none c.args.certified c.args.certs.now) _ c.loop-j.invariant.1 c.loop-j-test.true (payload-there c.args.certified c.args.certs.now _ (c.loop-j.invariant.0 c.loop-j-test.true)) c.next_in-j-in-loop-j.ensures,
)

pub returns : goal.returns
returns c = visit-last c.loop-j.invariant.1 c.loop-j-test.false ∙ payloads-all c.args.certified c.args.certs.now
