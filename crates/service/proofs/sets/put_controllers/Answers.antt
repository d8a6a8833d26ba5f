use native.Mathlib.Omega.{arith}
use mathlib.Core.Path.{ap, ◌∙◌}
use lib.ListN.{length}
use lib.Seq.{length-sets}
use Rattle.protocol.specs.Sets.{bit}
use Rattle.service.specs.Service.{numbers_below}
use Rattle.service.proofs.ServiceLaws.{numbers-first, numbers-skip, numbers-next, numbers-all}
use Rattle.service.proofs.sets.put_controllers.Goals as goal

pub loop-k-init : goal.loop-k-init
loop-k-init c = (omega arith, numbers-first _ _ _)

pub loop-k-preserved-then-not-has : goal.loop-k-preserved-then-not-has
loop-k-preserved-then-not-has c = (omega (arith, c.loop-k.invariant.0), numbers-skip _ _ c.loop-k.invariant.1 _ c.has.ensures c.if-not-has.true)

pub put_controller-at-requires : goal.put_controller-at-requires
put_controller-at-requires c = (c.loop-k-test.true, omega (arith, c.requires, c.loop-k-test.true, c.loop-k.invariant.0, ap length c.loop-k.invariant.1.is ∙ length-sets c.args.out.now c.args.from (numbers_below c.loop-k.k (bit c.args.set))))

pub loop-k-preserved : goal.loop-k-preserved
loop-k-preserved c = (omega (arith, c.put_controller-at.ensures.1, c.loop-k.invariant.0), numbers-next _ _ c.loop-k.invariant.1 _ c.has.ensures c.if-not-has.false c.put_controller-at.ensures.0)

pub shape_of-out : goal.shape_of-out
shape_of-out c = ap length c.loop-k.invariant.1.is ∙ simp length-sets

pub returns : goal.returns
returns c = (numbers-all _ _ _ (omega arith) c.loop-k.invariant.1, omega (arith, c.loop-k.invariant.0))
