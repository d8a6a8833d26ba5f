use native.Mathlib.Omega.{arith}
use Rattle.evidence.proofs.Taken.{below-taken, at-taken, end-taken}
use Rattle.evidence.proofs.Reporting.{kind-is}
use Rattle.evidence.proofs.Listing.{sifted-none, sifted-next, sifted-whole}
use Rattle.evidence.proofs.reports.reports_in.Goals as goal

pub loop-s-init : goal.loop-s-init
loop-s-init c = sifted-none c.told-listed

pub loop-s-preserved : goal.loop-s-preserved
loop-s-preserved c =
    let at = at-taken _ _ _ c.loop-s-test.true in
    let l = below-taken _ _ c.args.ids.now c.loop-s-test.true in
    rw (at, c.from-count.ensures) (sifted-next (omega (arith, l, c.record_length.ensures.1)) c.loop-s.invariant _ (kind-is _ _ (rw at at c.kind.ensures.0)))

pub returns : goal.returns
returns c = sifted-whole _ (end-taken _ _ _ (omega (arith, c.record_length.ensures.1)) c.loop-s.auto.s-index-end c.loop-s-test.false) c.record_length.ensures.0 c.loop-s.invariant
