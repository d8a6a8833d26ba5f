use native.Mathlib.Omega.{arith}
use mathlib.Core.Bool.{false≢true}
use mathlib.Core.Path.{refl, sym, subst, ◌∙◌}
use lib.Dec.{T}
use borrow.Author.Tests.{not-true, not-false}
use Rattle.protocol.proofs.Decided.{says-sames}
use Rattle.ranking.specs.Slots.{history_scale}
use Rattle.ranking.proofs.Slots as laws
use Rattle.ranking.proofs.Summits.{views-length}
use Rattle.ranking.proofs.histories.fill_lengths.Goals as goal

pub loop-a-init : goal.loop-a-init
loop-a-init g c = c.requires.1

pub loop-a-preserved-then-not-seals : goal.loop-a-preserved-then-not-seals
loop-a-preserved-then-not-seals g c = laws.slots-skip (history_scale _) _ _ _ _ (λ e. false≢true (sym c.if-not-seals.true ∙ c.seals.ensures ∙ e)) c.loop-a.invariant

pub bounds-slots-k : goal.bounds-slots-k
bounds-slots-k g c = omega (arith, c.count-k.ensures.1)

pub loop-a-preserved-then-count-k : goal.loop-a-preserved-then-count-k
loop-a-preserved-then-count-k g c = laws.slots-put (history_scale c.args.words.now) _ _ _ _ _ _ _ (sym c.seals.ensures ∙ c.if-not-seals.false) c.number-n.ensures (views-length _ _ _ c.count-k.ensures.0) refl (omega (arith, c.count-k.ensures.1)) (λ q. c.if-count-k.true (views-length _ _ _ c.count.ensures.0 ∙ q)) c.loop-a.invariant

pub returns-then-not-same_views : goal.returns-then-not-same_views
returns-then-not-same_views g c = laws.slots-clash (history_scale c.args.words.now) _ _ _ _ _ _ _ (sym c.seals.ensures ∙ c.if-not-seals.false) c.number-n.ensures (views-length _ _ _ c.count-k.ensures.0) refl _ c.loop-a-test.true (omega (arith, c.count-k.ensures.1)) (λ q. subst T (sym c.same_views.ensures ∙ not-true _ c.if-not-same_views.true-raw) ((says-sames _ _).complete q)) (sym (views-length _ _ _ c.count.ensures.0) ∙ c.if-count-k.false) c.loop-a.invariant

pub loop-a-preserved : goal.loop-a-preserved
loop-a-preserved g c = laws.slots_same (history_scale c.args.words.now) _ _ _ _ _ _ _ (sym c.seals.ensures ∙ c.if-not-seals.false) c.number-n.ensures (views-length _ _ _ c.count-k.ensures.0) refl ((says-sames _ _).sound (subst T (sym (sym c.same_views.ensures ∙ not-false _ c.if-not-same_views.false-raw)) tt)) c.loop-a.invariant

pub returns : goal.returns
returns g c = laws.slots-done (history_scale c.args.words.now) _ _ _ _ _ (omega arith) c.loop-a.invariant
