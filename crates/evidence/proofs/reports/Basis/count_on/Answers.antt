use native.Mathlib.Omega.{arith}
use mathlib.Core.Path.{sym, ◌∙◌}
use Rattle.evidence.proofs.Taken.{below-taken, at-taken, end-taken}
use Rattle.views.specs.View.{view_of}
use Rattle.pool.proofs.Records.{wait-first, wait-passes, wait-signs, wait-done, wait-all}
use Rattle.evidence.specs.Reports.{counts_on}
use Rattle.evidence.proofs.reports.Basis.count_on.Goals as goal

pub loop-i-init : goal.loop-i-init
loop-i-init c = wait-first _ _ _ (counts_on c.args.self.now.judge c.args.self.now.candidates.now c.args.self.now.certs.now c.args.self.now.keys.now (view_of c.args.u)) _ c.unsigned-a.ensures.0

pub loop-i-preserved-then-not-counts_on : goal.loop-i-preserved-then-not-counts_on
loop-i-preserved-then-not-counts_on c =
    let at = at-taken _ _ _ c.loop-i-test.true in
    let l = below-taken _ _ c.args.ids.now c.loop-i-test.true in
    wait-passes _ _ _ (counts_on c.args.self.now.judge c.args.self.now.candidates.now c.args.self.now.certs.now c.args.self.now.keys.now (view_of c.args.u)) _ _ (omega (arith, l, c.record_length-end.ensures.1)) c.loop-i.invariant (sym (rw at at c.counts_on.ensures) ∙ c.if-not-counts_on.true)

pub returns-then-is_complete : goal.returns-then-is_complete
returns-then-is_complete c =
    let at = at-taken _ _ _ c.loop-i-test.true in
    let l = below-taken _ _ c.args.ids.now c.loop-i-test.true in
    wait-done _ _ _ (counts_on c.args.self.now.judge c.args.self.now.candidates.now c.args.self.now.certs.now c.args.self.now.keys.now (view_of c.args.u)) _ _ (omega (arith, l, c.record_length-end.ensures.1)) c.loop-i.invariant _ _ _ (sym (rw at at c.counts_on.ensures) ∙ c.if-not-counts_on.false) (rw at at c.origin.ensures.0) c.sign-a.ensures c.is_complete.ensures _ (omega (arith, l, c.record_length-end.ensures.0)) c.if-is_complete.true

pub loop-i-preserved : goal.loop-i-preserved
loop-i-preserved c =
    let at = at-taken _ _ _ c.loop-i-test.true in
    let l = below-taken _ _ c.args.ids.now c.loop-i-test.true in
    wait-signs _ _ _ (counts_on c.args.self.now.judge c.args.self.now.candidates.now c.args.self.now.certs.now c.args.self.now.keys.now (view_of c.args.u)) _ _ (omega (arith, l, c.record_length-end.ensures.1)) c.loop-i.invariant _ _ _ (sym (rw at at c.counts_on.ensures) ∙ c.if-not-counts_on.false) (rw at at c.origin.ensures.0) c.sign-a.ensures c.is_complete.ensures c.if-is_complete.false

pub returns : goal.returns
returns c = wait-all _ _ _ (counts_on c.args.self.now.judge c.args.self.now.candidates.now c.args.self.now.certs.now c.args.self.now.keys.now (view_of c.args.u)) _ _ _ _ (end-taken _ _ _ (omega (arith, c.record_length-end.ensures.1)) c.loop-i.auto.i-end c.loop-i-test.false) c.record_length-end.ensures.0 c.loop-i.invariant
