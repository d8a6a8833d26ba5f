use native.Mathlib.Omega.{arith}
use mathlib.Core.Path.{refl, sym, ap, ◌∙◌}
use mathlib.Core.Bool.{false≢true}
use Rattle.views.specs.View.{view_of}
use Rattle.views.proofs.Views.{view-inj}
use Rattle.ranking.specs.Slots.{view_scale}
use Rattle.ranking.proofs.Slots as laws
use Rattle.ranking.proofs.candidates.fill_slots.Goals as goal

pub loop-c-init : goal.loop-c-init
loop-c-init c = c.requires.1

pub loop-c-preserved-then-not-is_yes : goal.loop-c-preserved-then-not-is_yes
loop-c-preserved-then-not-is_yes c = laws.slots-skip view_scale _ _ _ _ (λ e. false≢true (sym c.if-not-is_yes.true ∙ c.is_yes.ensures ∙ e)) c.loop-c.invariant

pub loop-c-preserved-then-u-v : goal.loop-c-preserved-then-u-v
loop-c-preserved-then-u-v c = laws.slots_same view_scale _ _ _ _ _ _ _ (sym c.is_yes.ensures ∙ c.if-not-is_yes.false) c.key-v.ensures c.size_of-k.ensures.0 refl (ap view_of c.if-u-v.true) c.loop-c.invariant

pub returns-then-size_of-k : goal.returns-then-size_of-k
returns-then-size_of-k c = laws.slots-clash view_scale _ _ _ _ _ _ _ (sym c.is_yes.ensures ∙ c.if-not-is_yes.false) c.key-v.ensures c.size_of-k.ensures.0 refl _ c.loop-c-test.true (omega (arith, c.size_of-k.ensures.1)) (λ q. c.if-u-v.false (view-inj _ _ (omega arith) (omega arith) q)) (sym c.size_of.ensures.0 ∙ c.if-size_of-k.true) c.loop-c.invariant

pub loop-c-preserved : goal.loop-c-preserved
loop-c-preserved c = laws.slots-put view_scale _ _ _ _ _ _ _ (sym c.is_yes.ensures ∙ c.if-not-is_yes.false) c.key-v.ensures c.size_of-k.ensures.0 refl (omega (arith, c.size_of-k.ensures.1)) (λ q. c.if-size_of-k.false (c.size_of.ensures.0 ∙ q)) c.loop-c.invariant

pub returns : goal.returns
returns c = laws.slots-done view_scale _ _ _ _ _ (omega arith) c.loop-c.invariant
