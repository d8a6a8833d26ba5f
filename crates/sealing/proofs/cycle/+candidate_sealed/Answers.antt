use native.Mathlib.Omega.{arith}
use mathlib.Core.Path.{refl}
use borrow.Author.Tests.{not-true, not-false}
use Rattle.tables.proofs.Searches.{rows-to-less}
use Rattle.sealing.proofs.Laws as laws
use Rattle.sealing.proofs.cycle.+candidate_sealed.Goals as goal

pub candidate-returns-then-v-init : goal.candidate-returns-then-v-init
candidate-returns-then-v-init t c = (laws.cand-init c.requires.0.tables (omega arith) c.if-v-init.true, laws.later_same c.requires.1)

pub candidate-first-requires : goal.candidate-first-requires
candidate-first-requires t c = (omega arith, (c.requires.0.choices, c.requires.0.tables.chosen))

pub candidate-returns-in_default : goal.candidate-returns-in_default
candidate-returns-in_default t c = (laws.cand-rowless c.requires.0.tables (omega arith) c.if-v-init.false c.first.ensures c.in_default.is, laws.later_same c.requires.1)

pub candidate-bounds-memo-f : goal.candidate-bounds-memo-f
candidate-bounds-memo-f t c = omega (arith, ((c.in-Some.ensures c.requires.0.choices c.requires.0.tables.chosen).here _ refl).0, c.requires.0.tables.chosen.few)

pub candidate-returns-in-Some-known : goal.candidate-returns-in-Some-known
candidate-returns-in-Some-known t c = (laws.remembered c.requires.1 (laws.about-view c.requires.0.tables c.first.ensures c.in-Some.is) c.in-Some-known.ensures, laws.later_same c.requires.1)

pub candidate-loop-choice-init : goal.candidate-loop-choice-init
candidate-loop-choice-init t c = (laws.later_same c.requires.1, laws.try-first c.in-Some.ensures)

pub candidate-at-t-requires : goal.candidate-at-t-requires
candidate-at-t-requires t c = (omega arith, omega (arith, laws.choice-row c.requires.0.tables c.loop-choice.invariant.1 c.in-Some-choice.is, c.requires.0.tables.chosen.few))

pub candidate-bounds-memo-f-then-t-init : goal.candidate-bounds-memo-f-then-t-init
candidate-bounds-memo-f-then-t-init t c = omega (arith, ((c.in-Some.ensures c.requires.0.choices c.requires.0.tables.chosen).here _ refl).0, c.requires.0.tables.chosen.few)

pub candidate-returns-then-t-init : goal.candidate-returns-then-t-init
candidate-returns-then-t-init t c = laws.put-yes c.loop-choice.invariant.0 (laws.about-view c.requires.0.tables c.first.ensures c.in-Some.is) (laws.cand-at-init c.requires.0.tables _ c.ranges.v.fits c.loop-choice.invariant.1 c.in-Some-choice.is c.at-t.ensures (omega arith) c.if-t-init.true)

pub candidate-first-agreement-requires : goal.candidate-first-agreement-requires
candidate-first-agreement-requires t c = (omega arith, (c.requires.0.agreements, c.requires.0.tables.agreed))

pub candidate-loop-agreement-init : goal.candidate-loop-agreement-init
candidate-loop-agreement-init t c = (laws.later_same c.loop-choice.invariant.0.memos, laws.seek-first c.first-agreement.ensures)

pub candidate-sealed-requires : goal.candidate-sealed-requires
candidate-sealed-requires t c = (
  omega (arith, laws.seal-less c.requires.0.tables _ c.loop-choice.invariant.1 c.in-Some-choice.is c.at-t.ensures c.loop-agreement.invariant.1 c.in-Some-agreement.is, c.requires.0),
  (record { choices = c.requires.0.choices; agreements = c.requires.0.agreements; tables = c.requires.0.tables; among = omega (arith, laws.agreement-row c.requires.0.tables c.loop-agreement.invariant.1 c.in-Some-agreement.is) }, c.loop-agreement.invariant.0.memos),
)

pub candidate-bounds-memo-f-then-sealed : goal.candidate-bounds-memo-f-then-sealed
candidate-bounds-memo-f-then-sealed t c = omega (arith, ((c.in-Some.ensures c.requires.0.choices c.requires.0.tables.chosen).here _ refl).0, c.requires.0.tables.chosen.few)

pub candidate-returns-then-sealed : goal.candidate-returns-then-sealed
candidate-returns-then-sealed t c = laws.put-yes (laws.later_more c.loop-choice.invariant.0 (laws.later_more c.loop-agreement.invariant.0 c.sealed.ensures.1)) (laws.about-view c.requires.0.tables c.first.ensures c.in-Some.is) (laws.cand-at c.requires.0.tables _ c.ranges.v.fits c.loop-choice.invariant.1 c.in-Some-choice.is c.at-t.ensures (omega arith) c.loop-agreement.invariant.1 c.in-Some-agreement.is c.sealed.ensures.0 c.if-sealed.true)

pub candidate-next-agreement-requires : goal.candidate-next-agreement-requires
candidate-next-agreement-requires t c = (omega arith, (c.requires.0.agreements, c.requires.0.tables.agreed, omega (arith, laws.agreement-row c.requires.0.tables c.loop-agreement.invariant.1 c.in-Some-agreement.is)))

pub candidate-loop-agreement-smaller : goal.candidate-loop-agreement-smaller
candidate-loop-agreement-smaller t c = rows-to-less c.in-Some-agreement.is c.next-agreement.ensures

pub candidate-loop-agreement-preserved : goal.candidate-loop-agreement-preserved
candidate-loop-agreement-preserved t c = (laws.later_more c.loop-agreement.invariant.0 c.sealed.ensures.1, laws.seek-next c.loop-agreement.invariant.1 c.in-Some-agreement.is c.sealed.ensures.0 c.if-sealed.false c.next-agreement.ensures)

pub candidate-next-choice-requires : goal.candidate-next-choice-requires
candidate-next-choice-requires t c = (omega arith, (c.requires.0.choices, c.requires.0.tables.chosen, omega (arith, laws.choice-row c.requires.0.tables c.loop-choice.invariant.1 c.in-Some-choice.is)))

pub candidate-loop-choice-smaller : goal.candidate-loop-choice-smaller
candidate-loop-choice-smaller t c = rows-to-less c.in-Some-choice.is c.next-choice.ensures

pub candidate-loop-choice-preserved : goal.candidate-loop-choice-preserved
candidate-loop-choice-preserved t c = (laws.later_more c.loop-choice.invariant.0 c.loop-agreement.invariant.0, laws.try-next c.requires.0.tables _ c.loop-choice.invariant.1 c.in-Some-choice.is c.at-t.ensures (omega arith) c.if-t-init.false c.loop-agreement.invariant.1 c.in_default-agreement.is c.next-choice.ensures)

pub candidate-bounds-memo-f-2 : goal.candidate-bounds-memo-f-2
candidate-bounds-memo-f-2 t c = omega (arith, ((c.in-Some.ensures c.requires.0.choices c.requires.0.tables.chosen).here _ refl).0, c.requires.0.tables.chosen.few)

pub candidate-returns : goal.candidate-returns
candidate-returns t c = laws.put-no c.loop-choice.invariant.0 (laws.about-view c.requires.0.tables c.first.ensures c.in-Some.is) (laws.cand-none c.requires.0.tables c.ranges.v.fits c.if-v-init.false c.loop-choice.invariant.1 c.in_default-choice.is)

pub sealed-bounds-memo-a : goal.sealed-bounds-memo-a
sealed-bounds-memo-a t c = omega (arith, c.requires.0.among, c.requires.0.tables.agreed.few)

pub sealed-returns-in-Some : goal.sealed-returns-in-Some
sealed-returns-in-Some t c = (laws.remembered c.requires.1 (laws.about-agreement c.args.a) c.in-Some.ensures, laws.later_same c.requires.1)

pub sealed-number-n-requires : goal.sealed-number-n-requires
sealed-number-n-requires t c = (omega arith, omega (arith, c.requires.0.among, c.requires.0.tables.agreed.few))

pub sealed-loop-p-init : goal.sealed-loop-p-init
sealed-loop-p-init t c = (laws.later_same c.requires.1, laws.all_first c.requires.0.tables _)

pub sealed-nth-v-requires : goal.sealed-nth-v-requires
sealed-nth-v-requires t c = omega (arith, c.count-p-end.ensures.1)

pub sealed-candidate-requires : goal.sealed-candidate-requires
sealed-candidate-requires t c = (
  omega (arith, laws.view-less c.requires.0.tables _ c.requires.0.among c.number-n.ensures c.count-p-end.ensures.0 c.loop-p-test.true c.nth-v.ensures, c.requires.0),
  (record { choices = c.requires.0.choices; agreements = c.requires.0.agreements; tables = c.requires.0.tables }, c.loop-p.invariant.0.memos),
)

pub sealed-bounds-memo-a-then-not-candidate : goal.sealed-bounds-memo-a-then-not-candidate
sealed-bounds-memo-a-then-not-candidate t c = omega (arith, c.requires.0.among, c.requires.0.tables.agreed.few)

pub sealed-returns-then-not-candidate : goal.sealed-returns-then-not-candidate
sealed-returns-then-not-candidate t c = laws.put-no (laws.later_more c.loop-p.invariant.0 c.candidate.ensures.1) (laws.about-agreement c.args.a) (laws.seal-not c.requires.0.tables _ _ c.number-n.ensures c.count-p-end.ensures.0 c.loop-p-test.true c.nth-v.ensures c.candidate.ensures.0 (not-true _ c.if-not-candidate.true-raw))

pub sealed-loop-p-preserved : goal.sealed-loop-p-preserved
sealed-loop-p-preserved t c = (laws.later_more c.loop-p.invariant.0 c.candidate.ensures.1, laws.all-next c.requires.0.tables _ c.loop-p.invariant.1 c.nth-v.ensures c.candidate.ensures.0 (not-false _ c.if-not-candidate.false-raw))

pub sealed-bounds-memo-a-then-t-init : goal.sealed-bounds-memo-a-then-t-init
sealed-bounds-memo-a-then-t-init t c = omega (arith, c.requires.0.among, c.requires.0.tables.agreed.few)

pub sealed-returns-then-t-init : goal.sealed-returns-then-t-init
sealed-returns-then-t-init t c = laws.put-yes c.loop-p.invariant.0 (laws.about-agreement c.args.a) (laws.seal-init c.requires.0.tables _ _ c.number-n.ensures c.count-p-end.ensures.0 c.loop-p.auto.p-end c.loop-p-test.false c.loop-p.invariant.1 c.at-t.ensures (omega arith) c.if-t-init.true)

pub sealed-first-agreement-requires : goal.sealed-first-agreement-requires
sealed-first-agreement-requires t c = (omega arith, (c.requires.0.agreements, c.requires.0.tables.agreed))

pub sealed-loop-agreement-init : goal.sealed-loop-agreement-init
sealed-loop-agreement-init t c = (laws.later_same c.loop-p.invariant.0.memos, laws.seek-first c.first-agreement.ensures)

pub sealed-sealed-requires : goal.sealed-sealed-requires
sealed-sealed-requires t c = (
  omega (arith, laws.top-less c.requires.0.tables _ c.requires.0.among c.number-n.ensures c.at-t.ensures c.loop-agreement.invariant.1 c.in-Some-agreement.is, c.requires.0),
  (record { choices = c.requires.0.choices; agreements = c.requires.0.agreements; tables = c.requires.0.tables; among = omega (arith, laws.agreement-row c.requires.0.tables c.loop-agreement.invariant.1 c.in-Some-agreement.is) }, c.loop-agreement.invariant.0.memos),
)

pub sealed-bounds-memo-a-then-sealed : goal.sealed-bounds-memo-a-then-sealed
sealed-bounds-memo-a-then-sealed t c = omega (arith, c.requires.0.among, c.requires.0.tables.agreed.few)

pub sealed-returns-then-sealed : goal.sealed-returns-then-sealed
sealed-returns-then-sealed t c = laws.put-yes (laws.later_more c.loop-p.invariant.0 (laws.later_more c.loop-agreement.invariant.0 c.sealed.ensures.1)) (laws.about-agreement c.args.a) (laws.seal-found c.requires.0.tables _ _ c.number-n.ensures c.count-p-end.ensures.0 c.loop-p.auto.p-end c.loop-p-test.false c.loop-p.invariant.1 c.at-t.ensures (omega arith) c.loop-agreement.invariant.1 c.in-Some-agreement.is c.sealed.ensures.0 c.if-sealed.true)

pub sealed-next-agreement-requires : goal.sealed-next-agreement-requires
sealed-next-agreement-requires t c = (omega arith, (c.requires.0.agreements, c.requires.0.tables.agreed, omega (arith, laws.agreement-row c.requires.0.tables c.loop-agreement.invariant.1 c.in-Some-agreement.is)))

pub sealed-loop-agreement-smaller : goal.sealed-loop-agreement-smaller
sealed-loop-agreement-smaller t c = rows-to-less c.in-Some-agreement.is c.next-agreement.ensures

pub sealed-loop-agreement-preserved : goal.sealed-loop-agreement-preserved
sealed-loop-agreement-preserved t c = (laws.later_more c.loop-agreement.invariant.0 c.sealed.ensures.1, laws.seek-next c.loop-agreement.invariant.1 c.in-Some-agreement.is c.sealed.ensures.0 c.if-sealed.false c.next-agreement.ensures)

pub sealed-bounds-memo-a-2 : goal.sealed-bounds-memo-a-2
sealed-bounds-memo-a-2 t c = omega (arith, c.requires.0.among, c.requires.0.tables.agreed.few)

pub sealed-returns : goal.sealed-returns
sealed-returns t c = laws.put-no (laws.later_more c.loop-p.invariant.0 c.loop-agreement.invariant.0) (laws.about-agreement c.args.a) (laws.seal-none c.requires.0.tables _ _ c.number-n.ensures c.at-t.ensures (omega arith) c.if-t-init.false c.loop-agreement.invariant.1 c.in_default-agreement.is)
