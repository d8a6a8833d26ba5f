use native.Mathlib.Omega.{arith}
use Rattle.sealing.proofs.Laws.{later_same, later_more}
use Rattle.sealing.proofs.Judged.{known-first, known_kept, known_next, known-all, choice-next}
use Rattle.sealing.proofs.judge.judge_choices.Goals as goal

pub loop-c-init : goal.loop-c-init
loop-c-init c = (later_same c.requires.1, known-first)

pub key-v-requires : goal.key-v-requires
key-v-requires c = (omega arith, omega (arith, c.requires.0.1.chosen.few, c.loop-c-test.true))

pub candidate-yes-requires : goal.candidate-yes-requires
candidate-yes-requires c = (record { choices = c.args.choices; agreements = c.requires.0.0; tables = c.requires.0.1 }, c.loop-c.invariant.0.memos)

pub bounds-memo-c : goal.bounds-memo-c
bounds-memo-c c = omega (arith, c.loop-c-test.true, c.requires.0.1.chosen.few)

pub loop-c-preserved : goal.loop-c-preserved
loop-c-preserved c = (choice-next (later_more c.loop-c.invariant.0 c.candidate-yes.ensures.1) _ (omega (arith, c.loop-c-test.true, c.requires.0.1.chosen.few)) c.key-v.ensures c.candidate-yes.ensures.0 c.of.ensures, known_next _ (known_kept c.loop-c.invariant.1 c.candidate-yes.ensures.1) (omega arith) (omega (arith, c.loop-c-test.true, c.requires.0.1.chosen.few)) c.of.ensures (omega arith))

pub returns : goal.returns
returns c = (c.loop-c.invariant.0, known-all c.loop-c.invariant.1 c.loop-c-test.false)
