use native.Mathlib.Omega.{arith}
use Rattle.engine.proofs.Numbers.{told-first, told-next, told-by, told-all, binding-at}
use Rattle.service.proofs.waits.tell_notices.Goals as goal

pub loop-j-init : goal.loop-j-init
loop-j-init c = told-first _ _ _ _

pub offset_bounds-held-j : goal.offset_bounds-held-j
offset_bounds-held-j c = omega (arith, c.requires, c.loop-j-test.true)

pub bounds-held-j : goal.bounds-held-j
bounds-held-j c = omega (arith, c.requires, c.loop-j-test.true)

pub offset_bounds-certs-j : goal.offset_bounds-certs-j
offset_bounds-certs-j c = omega (arith, c.requires, c.loop-j-test.true)

pub bounds-certs-j : goal.bounds-certs-j
bounds-certs-j c = omega (arith, c.requires, c.loop-j-test.true)

pub loop-j-preserved : goal.loop-j-preserved
loop-j-preserved c = told-next _ c.loop-j.invariant (told-by _ c.loop-j.j _ c.args.e.certified c.args.certs.now _ c.has.ensures c.tell.ensures) (omega (arith, c.requires, c.loop-j-test.true)) (binding-at _ _) _ (omega arith)

pub returns : goal.returns
returns c = told-all c.loop-j.invariant (omega (arith, c.loop-j-test.false))
