use native.Mathlib.Omega.{arith}
use mathlib.Core.Path.{◌≡◌, ap, ◌∙◌}
use lib.ListN.{length}
use lib.Seq.{length-sets}
use Rattle.std.proofs.lemmas.List.{get_or-take, length-take-le}
use Rattle.views.specs.View.{views_of}
use Rattle.service.specs.Service.{views_text}
use Rattle.service.proofs.ServiceLaws.{views-first, views-next, views-all}
use Rattle.service.proofs.sets.put_views.Goals as goal

pub loop-v-init : goal.loop-v-init
loop-v-init c = (omega arith, views-first _ _ _)

pub put_listed-at-requires : goal.put_listed-at-requires
put_listed-at-requires c =
    let m = length-take-le c.args.n c.args.list.now (omega arith) in
    omega (arith, c.requires.0, c.requires.1, c.loop-v-test.true, c.loop-v.invariant.0, ap length c.loop-v.invariant.1.is ∙ length-sets c.args.out.now c.args.from (views_text (views_of c.args.list.now c.loop-v.v-index)))

pub loop-v-preserved : goal.loop-v-preserved
loop-v-preserved c =
    let m = length-take-le c.args.n c.args.list.now (omega arith) in
    (omega (arith, c.put_listed-at.ensures.1, c.loop-v.invariant.0), views-next c.args.list.now c.loop-v.v-index _ (get_or-take c.args.n c.args.list.now c.loop-v.v-index 0 (omega arith)) c.loop-v.invariant.1 c.put_listed-at.ensures.0)

pub shape_of-out : goal.shape_of-out
shape_of-out c = ap length c.loop-v.invariant.1.is ∙ simp length-sets

pub returns : goal.returns
returns c =
    let m = length-take-le c.args.n c.args.list.now (omega arith) in
    let e : c.loop-v.v-index ≡ c.args.n = omega arith in
    (views-all _ _ _ e c.loop-v.invariant.1, omega (arith, c.loop-v.invariant.0))
