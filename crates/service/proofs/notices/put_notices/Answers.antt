use native.Mathlib.Omega.{arith}
use mathlib.Core.Path.{ap, ◌∙◌}
use lib.ListN.{length}
use lib.Seq.{length-sets}
use Rattle.text.proofs.Stores.{wrote_as}
use Rattle.pool.specs.Pool.{record_in}
use Rattle.service.specs.Service.{lines_below}
use Rattle.service.specs.ServiceParts.{held_line}
use Rattle.service.proofs.NoticeLaws.{lines-first, lines_next, lines-all, held-line}
use Rattle.service.proofs.notices.put_notices.Goals as goal

pub loop-j-init : goal.loop-j-init
loop-j-init c = (omega arith, lines-first _ _ _)

pub offset_bounds-held-j : goal.offset_bounds-held-j
offset_bounds-held-j c = omega (arith, c.requires.0, c.loop-j-test.true)

pub bounds-held-j : goal.bounds-held-j
bounds-held-j c = omega (arith, c.requires.0, c.loop-j-test.true)

pub put_notice-at-requires : goal.put_notice-at-requires
put_notice-at-requires c = (omega (arith, c.requires.0, c.loop-j-test.true), omega (arith, c.requires.1, c.loop-j-test.true, c.loop-j.invariant.0, ap length c.loop-j.invariant.1.is ∙ length-sets c.args.out.now c.args.from (lines_below c.loop-j.j (held_line c.args.init (record_in c.args.words.now c.args.ids.now) c.args.e c.args.certs.now c.args.held c.args.delivered))), c.requires.2)

pub loop-j-preserved : goal.loop-j-preserved
loop-j-preserved c = (omega (arith, c.put_notice-at.ensures.1, c.loop-j.invariant.0), lines_next (held_line c.args.init (record_in c.args.words.now c.args.ids.now) c.args.e c.args.certs.now c.args.held c.args.delivered) c.loop-j.j c.loop-j.invariant.1 (wrote_as (held-line _ _ _ _ c.args.held c.args.delivered c.loop-j.j _ c.has-done.ensures) c.put_notice-at.ensures.0))

pub shape_of-out : goal.shape_of-out
shape_of-out c = ap length c.loop-j.invariant.1.is ∙ simp length-sets

pub returns : goal.returns
returns c = (lines-all _ _ _ (omega arith) c.loop-j.invariant.1, omega (arith, c.loop-j.invariant.0))
