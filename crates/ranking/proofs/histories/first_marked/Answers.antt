use native.Mathlib.Omega.{arith}
use mathlib.Core.Path.{sym, ◌∙◌}
use mathlib.Core.Bool.{false≢true}
use borrow.Author.Count.{below_more}
use Rattle.ranking.proofs.histories.first_marked.Goals as goal

pub loop-a-init : goal.loop-a-init
loop-a-init g c = λ b l. absurd (omega arith)

pub returns-then-seals : goal.returns-then-seals
returns-then-seals g c = record { most = omega arith; none = c.loop-a.invariant; is = sym c.seals.ensures ∙ c.if-seals.true }

pub loop-a-preserved : goal.loop-a-preserved
loop-a-preserved g c = below_more _ _ c.loop-a.invariant (λ e. false≢true (sym c.if-seals.false ∙ c.seals.ensures ∙ e))

pub returns : goal.returns
returns g c = record { none = λ b l. c.loop-a.invariant b (omega arith) }
