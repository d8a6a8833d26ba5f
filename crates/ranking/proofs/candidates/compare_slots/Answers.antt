use native.Mathlib.Omega.{arith}
use mathlib.Core.Path.{refl, sym, ap, ◌∙◌, subst}
use lib.Dec.{T}
use lib.ListN.{get_or}
use Rattle.std.specs.Prelude.{is_some, unwrap_or}
use Rattle.protocol.specs.View.{Within}
use Rattle.protocol.proofs.Monotone.{within-trans}
use Rattle.protocol.proofs.Decided.{says-within}
use Rattle.views.specs.View.{view_of}
use Rattle.ranking.specs.Slots.{view_scale}
use Rattle.ranking.proofs.Slots as laws
use Rattle.ranking.proofs.candidates.compare_slots.Goals as goal
use Rattle.ranking.proofs.candidates.compare_slots.Goals.{in-Some+else-not-within_view, in_default}

pub loop-k-init : goal.loop-k-init
loop-k-init c = laws.chain_first view_scale _ _

pub loop-k-preserved-then-slot_size-k : goal.loop-k-preserved-then-slot_size-k
loop-k-preserved-then-slot_size-k c = laws.chain-skip view_scale _ _ _ _ _ _ refl c.slot_size.ensures.0 c.if-slot_size-k.true c.loop-k.invariant

pub returns-then-not-within_view : goal.returns-then-not-within_view
returns-then-not-within_view c = laws.compared-stop _ _ refl (laws.chain-stop view_scale _ _ _ _ _ _ refl c.slot_size.ensures.0 c.if-slot_size-k.false c.loop-k.invariant c.loop-k-test.true (ap is_some c.in-Some.is)
    (λ q. subst T (sym c.within_view.ensures ∙ c.if-not-within_view.true) (says-within.complete (subst (λ u. Within 16 (view_of (unwrap_or u 0)) (view_of (get_or c.args.slots.now c.loop-k.k 0))) c.in-Some.is q))))

pub loop-k-preserved : goal.loop-k-preserved
loop-k-preserved c = elim c.match-last.branch [
  | in-Some+else-not-within_view w ↦ laws.chain_on view_scale w.in-Some.is c.slot_size.ensures.0 c.if-slot_size-k.false c.loop-k.invariant laws.same-within (λ u x y. within-trans) (says-within.sound (subst T (sym (sym w.within_view.ensures ∙ w.if-not-within_view.false)) tt))
  | in_default w ↦ laws.chain-start view_scale _ _ _ _ _ _ refl c.slot_size.ensures.0 c.if-slot_size-k.false c.loop-k.invariant laws.same-within (ap is_some w.in_default.is)
]

pub returns : goal.returns
returns c = laws.compared-end _ _ _ _ (omega arith) c.loop-k.invariant
