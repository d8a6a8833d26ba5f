use native.Mathlib.Omega.{arith}
use mathlib.Core.Path.{sym, ◌∙◌}
use Rattle.votes.proofs.Alike.{word-of, vote-plain, what-view, what-history, what-payload}
use Rattle.pool.proofs.Laws.{plain-payload}
use Rattle.votes.proofs.keys.what_of.Goals as goal

pub returns-then-k : goal.returns-then-k
returns-then-k c = word-of _ _ (omega arith) c.view.ensures ∙ sym (what-view _ (sym c.kind-k.ensures.0 ∙ c.if-k.true))

pub returns-then-k-2 : goal.returns-then-k-2
returns-then-k-2 c = c.mixed.ensures ∙ sym (what-history _ (sym c.kind-k.ensures.0 ∙ c.if-k-2.true))

pub returns-else-k-2 : goal.returns-else-k-2
returns-else-k-2 c = c.payload.ensures ∙ sym (plain-payload _ _ (vote-plain _ c.requires)) ∙ sym (what-payload _ (λ q. omega arith) (λ q. omega arith))
