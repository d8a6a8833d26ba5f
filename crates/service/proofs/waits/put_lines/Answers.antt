use native.Mathlib.Omega.{arith}
use mathlib.Core.Path.{ap, ◌∙◌}
use lib.ListN.{length}
use lib.Seq.{length-sets}
use Rattle.std.proofs.lemmas.List.{get_or-take, length-take-le}
use Rattle.pool.specs.Pool.{record_in}
use Rattle.views.specs.View.{view_of, views_of}
use Rattle.evidence.specs.Evidence.{ring_is}
use Rattle.evidence.specs.Notices.{senders_of}
use Rattle.service.specs.ServiceParts.{lines_for}
use Rattle.service.proofs.WaitLaws.{lines-first, lines-skip, lines_next, lines-all, lacks-none, lacks-some, awaited-is}
use Rattle.service.proofs.waits.put_lines.Goals as goal

pub loop-u-init : goal.loop-u-init
loop-u-init c = (omega arith, lines-first _ _ _ _ _ _ _)

pub reporters-who-requires : goal.reporters-who-requires
reporters-who-requires c = c.requires.2

pub loop-u-preserved-then-makes_quorum : goal.loop-u-preserved-then-makes_quorum
loop-u-preserved-then-makes_quorum c =
    let m = length-take-le c.args.n c.args.list.now (omega arith) in
    (omega (arith, c.loop-u.invariant.0), lines-skip _ _ _ _ _ _ _ (get_or-take c.args.n c.args.list.now c.loop-u.u-index 0 (omega arith)) c.loop-u.invariant.1 (lacks-none _ _ _ _ _ c.reporters-who.ensures _ c.makes_quorum.ensures c.if-makes_quorum.true))

pub put_line-at-requires : goal.put_line-at-requires
put_line-at-requires c =
    let m = length-take-le c.args.n c.args.list.now (omega arith) in
    omega (arith, c.requires.1, c.loop-u-test.true, c.loop-u.invariant.0, ap length c.loop-u.invariant.1.is ∙ length-sets c.args.out.now c.args.from (lines_for (ring_is c.args.ring) (senders_of c.args.senders.now c.args.ring.notices) (record_in c.args.words.now c.args.ids.now) (view_of c.args.t) (views_of c.args.list.now c.loop-u.u-index)))

pub loop-u-preserved : goal.loop-u-preserved
loop-u-preserved c =
    let m = length-take-le c.args.n c.args.list.now (omega arith) in
    (omega (arith, c.put_line-at.ensures.1, c.loop-u.invariant.0), lines_next _ _ _ _ _ _ _ (get_or-take c.args.n c.args.list.now c.loop-u.u-index 0 (omega arith)) c.loop-u.invariant.1 _ (lacks-some _ _ _ _ _ c.reporters-who.ensures _ c.makes_quorum.ensures c.if-makes_quorum.false) (awaited-is _ _ _ _ _ c.reporters-who.ensures _ c.members_without.ensures) c.put_line-at.ensures.0)

pub shape_of-out : goal.shape_of-out
shape_of-out c = ap length c.loop-u.invariant.1.is ∙ simp length-sets

pub returns : goal.returns
returns c =
    let m = length-take-le c.args.n c.args.list.now (omega arith) in
    (lines-all _ _ _ _ _ _ _ (omega arith) c.loop-u.invariant.1, omega (arith, c.loop-u.invariant.0))
