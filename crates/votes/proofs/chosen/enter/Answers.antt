use native.Mathlib.Omega.{arith}
use Rattle.votes.proofs.Picked.{rows-first, enters, stays-out, others_first, others-more, rows_all}
use Rattle.votes.proofs.chosen.enter.Goals as goal
use Rattle.votes.proofs.chosen.enter.Goals.{in-Some, in_default}

pub loop-g-init : goal.loop-g-init
loop-g-init h c = record { fewer = omega arith; entered = λ W of test told. rows-first c.requires.table.1; others = others_first }

pub loop-g-preserved : goal.loop-g-preserved
loop-g-preserved h c = elim c.match-word.branch [
  | in-Some w ↦ rw (w.keys-is, w.rows-is, w.count-is) (record {
    fewer = omega (arith, c.loop-g.invariant.fewer);
    entered = λ W of test told. enters told c.loop-g-test.true c.place_of.ensures w.in-Some.ensures (omega (arith, c.loop-g.invariant.fewer, c.requires.groups.most)) w.add.ensures (c.loop-g.invariant.entered W of test told);
    others = others-more c.loop-g.invariant.others w.add.ensures;
  })
  | in_default w ↦ rw (w.keys-is, w.rows-is, w.count-is) (record {
    fewer = omega (arith, c.loop-g.invariant.fewer);
    entered = λ W of test told. stays-out told c.loop-g-test.true c.place_of.ensures w.in_default.ensures (c.loop-g.invariant.entered W of test told);
    others = c.loop-g.invariant.others;
  })
]

pub returns : goal.returns
returns h c = record { entered = λ W of test told. rows_all (omega arith) (c.loop-g.invariant.entered W of test told); others = c.loop-g.invariant.others }
