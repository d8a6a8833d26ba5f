use native.Mathlib.Omega.{arith}
use mathlib.Core.Path.{ap, subst, ◌∙◌}
use Prim.Native.Nat.{min}
use Rattle.evidence.proofs.Taken.{below-taken, at-taken, end-taken}
use Rattle.views.specs.Tally.{place_in}
use Rattle.evidence.proofs.Completed as laws
use Rattle.evidence.proofs.certificates.complete_after.Goals.{then-casts, else-casts}
use Rattle.evidence.proofs.certificates.complete_after.Goals as goal

pub loop-x-init : goal.loop-x-init
loop-x-init c = λ b. laws.least_first _ _ _ _ _ _ b _ _

pub loop-x-preserved : goal.loop-x-preserved
loop-x-preserved c =
    let at = at-taken _ _ _ c.loop-x-test.true in
    let l = below-taken _ _ c.args.groups.now c.loop-x-test.true in
    let p = c.place_of-f.ensures ∙ ap place_in at in
    λ b. elim c.if-casts.branch [
      | then-casts w ↦ rw w.least-is (laws.least-take _ _ _ _ _ _ b _ _ (c.loop-x.invariant b) _ p _ c.casts.ensures w.if-casts.true _ (w.min.ensures ∙ ap (λ x. min x c.place_of-f.result) w.unwrap_or.ensures))
      | else-casts w ↦ rw w.least-is (laws.least_skip _ _ _ _ _ _ b _ _ (c.loop-x.invariant b) _ p _ c.casts.ensures w.if-casts.false)
    ]

pub returns-in-None : goal.returns-in-None
returns-in-None c = (laws.complete-none _ _ _ _ _ _ c.requires _ _ _ (end-taken _ _ _ (omega (arith, c.requires.most)) c.loop-x.auto.x-index-end c.loop-x-test.false) (subst (λ o. laws.LeastTo _ _ _ _ _ _ c.requires c.args.j c.args.m c.loop-x.x-index o) c.in-None.is (c.loop-x.invariant c.requires)), omega arith)

pub overflow_add-result : goal.overflow_add-result
overflow_add-result c = let h = (laws.complete-some _ _ _ _ _ _ c.requires _ _ _ _ (end-taken _ _ _ (omega (arith, c.requires.most)) c.loop-x.auto.x-index-end c.loop-x-test.false) (subst (λ o. laws.LeastTo _ _ _ _ _ _ c.requires c.args.j c.args.m c.loop-x.x-index o) c.in-Some.is (c.loop-x.invariant c.requires))).1 in record { fits = omega (arith, h) }

pub returns-in-Some : goal.returns-in-Some
returns-in-Some c = let h = laws.complete-some _ _ _ _ _ _ c.requires _ _ _ _ (end-taken _ _ _ (omega (arith, c.requires.most)) c.loop-x.auto.x-index-end c.loop-x-test.false) (subst (λ o. laws.LeastTo _ _ _ _ _ _ c.requires c.args.j c.args.m c.loop-x.x-index o) c.in-Some.is (c.loop-x.invariant c.requires)) in (h.0, omega (arith, h.1))
