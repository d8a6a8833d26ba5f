use native.Mathlib.Omega.{arith}
use mathlib.Core.Path.{◌≡◌, refl, ◌∙◌}
use Rattle.pool.proofs.Records.{set_first, set_next, set-whole}
use Rattle.votes.proofs.Gathering.{sofar-first, sofar-whole}
use Rattle.votes.proofs.groups.gather.Goals as goal

pub loop-i-init : goal.loop-i-init
loop-i-init c = (sofar-first _ _ (omega arith) c.requires.0 c.requires.1, set_first _ _ _, set_first _ _ _)

pub add-n-requires : goal.add-n-requires
add-n-requires c = (omega (arith, c.record_length-end.ensures.1), c.loop-i.invariant.0)

pub loop-i-preserved : goal.loop-i-preserved
loop-i-preserved c = (c.add-n.ensures, set_next _ _ _ _ _ _ _ _ (omega (arith, c.record_length-end.ensures.1)) c.loop-i.invariant.1 c.note_asked-asked.ensures.0 refl refl, set_next _ _ _ _ _ _ _ _ (omega (arith, c.record_length-end.ensures.1)) c.loop-i.invariant.2 c.note_asked-asked.ensures.1 refl refl)

pub returns : goal.returns
returns c = let e : c.loop-i.i ≡ c.record_length-end.result = omega arith in record { groups = sofar-whole _ _ _ (e ∙ c.record_length-end.ensures.0) c.loop-i.invariant.0; wished = c.wished_view.ensures _ (set-whole _ _ _ _ _ _ _ e c.record_length-end.ensures.0 c.loop-i.invariant.1) (set-whole _ _ _ _ _ _ _ e c.record_length-end.ensures.0 c.loop-i.invariant.2); empty = c.loop-i.invariant.0.empty }
