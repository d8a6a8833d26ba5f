use native.Mathlib.Omega.{arith}
use mathlib.Core.Path.{ap, ◌∙◌}
use Rattle.evidence.proofs.Taken.{below-taken, at-taken, end-taken}
use Rattle.views.specs.Tally.{place_in}
use Rattle.std.proofs.Math.Option.{some}
use Rattle.evidence.proofs.Behind as laws
use Rattle.evidence.proofs.signers.least_top.Goals.{then-casts, else-casts}
use Rattle.evidence.proofs.signers.least_top.Goals as goal

pub loop-x-init : goal.loop-x-init
loop-x-init c = λ b l. laws.top-first _ _ _ _ _ _ b _ l _ _

pub casts-requires : goal.casts-requires
casts-requires c = laws.late-not c.requires.1

pub loop-x-preserved : goal.loop-x-preserved
loop-x-preserved c =
    let at = at-taken _ _ _ c.loop-x-test.true in
    let l = below-taken _ _ c.args.groups.now c.loop-x-test.true in
    let p = c.place_of.ensures ∙ ap place_in at in
    let asked = rw c.from.ensures at c.casts.ensures in
    λ b late. elim c.if-casts.branch [
      | then-casts w ↦ rw w.least-is (laws.top-take _ _ _ _ _ _ b _ late _ _ (c.loop-x.invariant b late) _ p _ asked _ w.if-casts.true w.at.ensures _ (ap some w.lesser.ensures))
      | else-casts w ↦ rw w.least-is (laws.top-skip _ _ _ _ _ _ b _ late _ _ (c.loop-x.invariant b late) _ p _ asked w.if-casts.false)
    ]

pub returns : goal.returns
returns c = laws.top-found _ _ _ _ _ _ c.requires.0 _ c.requires.1 _ _ _ _ (end-taken _ _ _ (omega (arith, c.requires.0.most)) c.loop-x.auto.x-index-end c.loop-x-test.false) (c.loop-x.invariant c.requires.0 c.requires.1)
