use native.Mathlib.Omega.{arith}
use mathlib.Core.Path.{refl, sym, ◌∙◌}
use Rattle.evidence.proofs.Taken.{below-taken, at-taken, end-taken}
use Rattle.evidence.proofs.reports.Basis.signers_on.Goals.{then-counts_on, else-counts_on}
use Rattle.protocol.specs.Signers.{signers}
use Rattle.views.proofs.Sets.{note-none}
use Rattle.pool.proofs.Records.{set_first, set_next, set-whole}
use Rattle.evidence.proofs.reports.Basis.signers_on.Goals as goal

pub loop-s-init : goal.loop-s-init
loop-s-init c = set_first _ _ _

pub loop-s-preserved : goal.loop-s-preserved
loop-s-preserved c =
    let at = at-taken _ _ _ c.loop-s-test.true in
    let l = below-taken _ _ c.args.ids.now c.loop-s-test.true in
    let is = rw at at c.counts_on.ensures in
    elim c.if-counts_on.branch [
      | then-counts_on w ↦ rw w.seen-is (set_next _ _ _ _ _ _ _ _ (omega (arith, l, c.record_length.ensures.1)) c.loop-s.invariant w.note-seen.ensures (sym w.if-counts_on.true ∙ is) (rw at at w.origin.ensures.0))
      | else-counts_on w ↦ rw w.seen-is (set_next _ _ _ _ _ _ _ _ (omega (arith, l, c.record_length.ensures.1)) c.loop-s.invariant (note-none _ _ _ w.if-counts_on.false) is refl)
    ]

pub returns : goal.returns
unfolding signers
returns c = c.members_among.ensures.is _ (set-whole _ _ _ _ _ _ _ (end-taken _ _ _ (omega (arith, c.record_length.ensures.1)) c.loop-s.auto.s-index-end c.loop-s-test.false) c.record_length.ensures.0 c.loop-s.invariant)
