use native.Mathlib.Omega.{arith}
use mathlib.Core.Path.{sym, subst}
use lib.Dec.{T}
use Rattle.ranking.proofs.Skips.{alike-first, alike-more, starts-found}
use Rattle.ranking.proofs.histories.starts_with.Goals as goal

pub returns-then-count-c : goal.returns-then-count-c
returns-then-count-c c = λ e. absurd (subst T (sym e) tt)

pub loop-p-init : goal.loop-p-init
loop-p-init c = alike-first _ _

pub nth-requires : goal.nth-requires
nth-requires c = omega (arith, c.count-c.ensures.1)

pub nth-requires-in-loop-p : goal.nth-requires-in-loop-p
nth-requires-in-loop-p c = omega (arith, c.count-c.ensures.1)

pub returns-then-nth : goal.returns-then-nth
returns-then-nth c = λ e. absurd (subst T (sym e) tt)

pub loop-p-preserved : goal.loop-p-preserved
loop-p-preserved c = alike-more _ _ _ _ _ c.loop-p.invariant c.nth.ensures c.nth-in-loop-p.ensures c.if-nth.false

pub returns : goal.returns
returns c = λ e. starts-found _ _ _ _ _ _ c.count.ensures.0 c.count-c.ensures.0 (omega arith) (omega arith) c.loop-p.invariant
