use borrow.Author.Tests.{not-false}
use native.Mathlib.Omega.{arith}
use mathlib.Core.Path.{sym}
use mathlib.Core.Bool.{true≢false}
use Rattle.bench.proofs.States.{needless}
use Rattle.bench.proofs.state.lacks_nothing.Goals as goal

pub returns-then-not-g : goal.returns-then-not-g
returns-then-not-g c = λ e. absurd (true≢false (sym e))

pub returns-then-pool_len-full : goal.returns-then-pool_len-full
returns-then-pool_len-full c = λ e. absurd (true≢false (sym e))

pub returns-in_default : goal.returns-in_default
returns-in_default c = λ e. absurd (true≢false (sym e))

pub returns : goal.returns
returns c = λ e. needless _ _ _ _ _ c.in-All.is (not-false _ c.if-not-g.false) (omega (arith, c.pool_len.ensures.0, c.if-pool_len-full.false))
