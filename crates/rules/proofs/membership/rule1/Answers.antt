use native.Mathlib.Omega.{arith}
use mathlib.Core.Path.{refl, sym, ap, ◌∙◌}
use Prim.Native.Nat.{◌≤◌}
use lib.ListN.{length}
use Rattle.views.specs.View.{view_in}
use Rattle.views.specs.Held.{view_is}
use Rattle.pool.specs.Pool.{record_in}
use Rattle.rules.specs.Rules.{report_due}
use Rattle.rules.proofs.Scans.{front-below, front-at, front-end, slots-any-none, slots-any-more, slots-found, slots-nothing}
use Rattle.rules.proofs.Applied.{does, first-none, first_on}
use Rattle.rules.proofs.membership.rule1.Goals as goal

pub loop-u-init : goal.loop-u-init
loop-u-init c = slots-any-none _ _

pub returns-then-is_due : goal.returns-then-is_due
returns-then-is_due c =
    let few : c.args.s.shown.length ≤ length c.args.greatest.now = omega arith in
    let at = front-at c.args.s.shown.length c.args.greatest.now _ few c.loop-u-test.true in
    does (first_on _ _ _ _ (slots-found _ _ _ _ _ (front-below _ _ _ few c.loop-u-test.true) c.loop-u.invariant
    (ap (λ u. report_due (record_in c.args.words.now c.args.own.now) c.args.s.number (view_is c.args.s.top) (view_in u)) (sym at) ∙ sym c.is_due.ensures ∙ c.if-is_due.true) (c.of_word.ensures ∙ ap view_in at))) refl

pub loop-u-preserved : goal.loop-u-preserved
loop-u-preserved c =
    let few : c.args.s.shown.length ≤ length c.args.greatest.now = omega arith in
    let at = front-at c.args.s.shown.length c.args.greatest.now _ few c.loop-u-test.true in
    slots-any-more _ _ _ c.loop-u.invariant (ap (λ u. report_due (record_in c.args.words.now c.args.own.now) c.args.s.number (view_is c.args.s.top) (view_in u)) (sym at) ∙ sym c.is_due.ensures ∙ c.if-is_due.false)

pub returns : goal.returns
returns c = does (first-none _ _ _ (slots-nothing _ _ _ _ (front-end _ c.args.greatest.now _ (omega arith) c.loop-u.auto.u-index-end c.loop-u-test.false) c.loop-u.invariant)) refl
