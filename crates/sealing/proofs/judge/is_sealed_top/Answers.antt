use native.Mathlib.Omega.{arith}
use mathlib.Core.Path.{sym, ◌∙◌}
use Rattle.tables.proofs.Searches.{rows-to-less}
use Rattle.sealing.proofs.Laws.{seek-first, seek-next, agreement-row, top-init, top-found, top-none}
use Rattle.sealing.proofs.Judged.{says-as}
use Rattle.sealing.proofs.judge.is_sealed_top.Goals as goal

pub returns-then-t-init : goal.returns-then-t-init
returns-then-t-init c = sym (top-init c.requires.tables (omega arith) c.if-t-init.true)

pub first-agreement-requires : goal.first-agreement-requires
first-agreement-requires c = (omega arith, (c.requires.agreements, c.requires.tables.agreed))

pub loop-agreement-init : goal.loop-agreement-init
loop-agreement-init c = seek-first c.first-agreement.ensures

pub overflow_add-a : goal.overflow_add-a
overflow_add-a c = omega (arith, agreement-row c.requires.tables c.loop-agreement.invariant c.in-Some.is, c.requires.tables.agreed.few)

pub bounds-memo-a : goal.bounds-memo-a
bounds-memo-a c = omega (arith, agreement-row c.requires.tables c.loop-agreement.invariant c.in-Some.is, c.requires.tables.agreed.few)

pub returns-then-is_yes : goal.returns-then-is_yes
returns-then-is_yes c = sym (top-found c.requires.tables c.ranges.t.fits c.loop-agreement.invariant c.in-Some.is (sym (says-as c.requires.verdicts (agreement-row c.requires.tables c.loop-agreement.invariant c.in-Some.is) c.is_yes.ensures) ∙ c.if-is_yes.true))

pub next-agreement-requires : goal.next-agreement-requires
next-agreement-requires c = (omega arith, (c.requires.agreements, c.requires.tables.agreed, omega (arith, agreement-row c.requires.tables c.loop-agreement.invariant c.in-Some.is)))

pub loop-agreement-smaller : goal.loop-agreement-smaller
loop-agreement-smaller c = rows-to-less c.in-Some.is c.next-agreement.ensures

pub loop-agreement-preserved : goal.loop-agreement-preserved
loop-agreement-preserved c = seek-next c.loop-agreement.invariant c.in-Some.is (says-as c.requires.verdicts (agreement-row c.requires.tables c.loop-agreement.invariant c.in-Some.is) c.is_yes.ensures) c.if-is_yes.false c.next-agreement.ensures

pub returns : goal.returns
returns c = sym (top-none c.requires.tables c.ranges.t.fits c.if-t-init.false c.loop-agreement.invariant c.in_default.is)
