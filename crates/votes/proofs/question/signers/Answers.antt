use native.Mathlib.Omega.{arith}
use mathlib.Core.Path.{refl, sym, ◌∙◌}
use Rattle.protocol.specs.Signers.{signers}
use Rattle.views.proofs.Sets.{note-none}
use Rattle.pool.proofs.Records.{set_first, set_next, set-whole}
use Rattle.votes.proofs.question.signers.Goals as goal

pub loop-i-init : goal.loop-i-init
loop-i-init c = set_first _ _ _

pub loop-i-preserved-then-not-says : goal.loop-i-preserved-then-not-says
loop-i-preserved-then-not-says c = set_next _ _ _ _ _ _ _ _ (omega (arith, c.record_length-end.ensures.1)) c.loop-i.invariant (note-none _ _ _ c.if-not-says.true) c.says.ensures refl

pub loop-i-preserved : goal.loop-i-preserved
loop-i-preserved c = set_next _ _ _ _ _ _ _ _ (omega (arith, c.record_length-end.ensures.1)) c.loop-i.invariant c.note-seen.ensures (sym c.if-not-says.false ∙ c.says.ensures) c.origin.ensures.0

pub returns : goal.returns
unfolding signers
returns c = c.members_among.ensures.is _ (set-whole _ _ _ _ _ _ _ (omega arith) c.record_length-end.ensures.0 c.loop-i.invariant)
