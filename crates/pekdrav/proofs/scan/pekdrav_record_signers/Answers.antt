use borrow.Author.Tests.{not-true}
use native.Mathlib.Omega.{arith}
use mathlib.Core.Path.{refl}
use Rattle.views.proofs.Sets.{note-none}
use Rattle.pool.proofs.Records.{set_first, set_next, set-whole}
use Rattle.pekdrav.proofs.scan.pekdrav_record_signers.Goals as goal

pub loop-i-init : goal.loop-i-init
loop-i-init c = set_first _ _ _

pub loop-i-preserved-then-not-hit : goal.loop-i-preserved-then-not-hit
loop-i-preserved-then-not-hit c = set_next _ _ _ _ _ _ _ _ (omega arith) c.loop-i.invariant (note-none _ _ _ (not-true _ c.if-not-hit.true-raw)) c.is_at-hit.ensures refl

pub loop-i-preserved : goal.loop-i-preserved
loop-i-preserved c = set_next _ _ _ _ _ _ _ _ (omega arith) c.loop-i.invariant c.note-seen.ensures c.is_at-hit.ensures c.origin.ensures.0

pub returns : goal.returns
returns c = set-whole _ _ _ _ _ _ _ (omega arith) c.record_length-end.ensures.0 c.loop-i.invariant
