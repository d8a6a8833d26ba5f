use native.Mathlib.Omega.{arith}
use Rattle.sealing.proofs.Laws.{later_same, later_more}
use Rattle.sealing.proofs.Judged.{known-first, known_kept, known_next, known-all, agreement-next}
use Rattle.sealing.proofs.judge.judge_agreements.Goals as goal

pub loop-a-init : goal.loop-a-init
loop-a-init c = (later_same c.requires.1, known-first)

pub sealed-yes-requires : goal.sealed-yes-requires
sealed-yes-requires c = (record { choices = c.requires.0.0; agreements = c.args.agreements; tables = c.requires.0.1; among = c.loop-a-test.true }, c.loop-a.invariant.0.memos)

pub bounds-memo-a : goal.bounds-memo-a
bounds-memo-a c = omega (arith, c.loop-a-test.true, c.requires.0.1.agreed.few)

pub loop-a-preserved : goal.loop-a-preserved
loop-a-preserved c = (agreement-next (later_more c.loop-a.invariant.0 c.sealed-yes.ensures.1) _ _ c.sealed-yes.ensures.0 c.of.ensures, known_next _ (known_kept c.loop-a.invariant.1 c.sealed-yes.ensures.1) (omega arith) (omega (arith, c.loop-a-test.true, c.requires.0.1.agreed.few)) c.of.ensures (omega arith))

pub returns : goal.returns
returns c = (c.loop-a.invariant.0, known-all c.loop-a.invariant.1 (omega arith))
