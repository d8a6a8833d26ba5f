use native.Mathlib.Omega.{arith}
use mathlib.Core.Path.{sym, ◌∙◌}
use mathlib.Core.Logic.{inl, inr}
use Rattle.votes.proofs.Questions.{asks-not-kind, asks-not-at, asks-view, asks-history, asks_none, asks-notice}
use Rattle.votes.proofs.question.says.Goals as goal
use Rattle.votes.proofs.question.says.Goals.{then-kind-from-via-then-kind-from, then-kind-from-via-else-kind-from+then-at-q, then-q-3-via-then-q-3, then-q-3-via-else-q-3+then-q-4}

pub returns-then-kind-from : goal.returns-then-kind-from
returns-then-kind-from c = elim c.then-kind-from.branch [
  | then-kind-from-via-then-kind-from w ↦ asks-not-kind c.args.q _ _ _ c.kind.ensures.0 (λ e. w.if-kind-from.true (e ∙ sym c.from.ensures))
  | then-kind-from-via-else-kind-from+then-at-q w ↦ asks-not-at c.args.q _ _ _ _ c.kind.ensures.0 w.at.ensures (omega arith) (omega arith) w.if-at-q.true
]

pub returns-then-q : goal.returns-then-q
returns-then-q c = asks-view c.args.q _ _ _ _ c.kind.ensures.0 c.at.ensures (omega arith) (omega arith) (c.if-kind-from.false ∙ c.from.ensures) c.if-at-q.false _ c.if-q.true c.view.ensures (omega arith) (omega arith)

pub returns-then-q-2 : goal.returns-then-q-2
returns-then-q-2 c = asks-history c.args.q _ _ _ _ c.kind.ensures.0 c.at.ensures (omega arith) (omega arith) (c.if-kind-from.false ∙ c.from.ensures) c.if-at-q.false _ c.if-q-2.true c.has_views.ensures

pub returns-then-q-3 : goal.returns-then-q-3
returns-then-q-3 c = elim c.then-q-3.branch [
  | then-q-3-via-then-q-3 w ↦ asks_none c.args.q _ _ c.if-q.false c.if-q-2.false (inl w.if-q-3.true)
  | then-q-3-via-else-q-3+then-q-4 w ↦ asks_none c.args.q _ _ c.if-q.false c.if-q-2.false (inr w.if-q-4.true)
]

pub returns : goal.returns
returns c = asks-notice c.args.q _ _ _ _ c.kind.ensures.0 c.at.ensures (omega arith) (omega arith) (c.if-kind-from.false ∙ c.from.ensures) c.if-at-q.false _ (omega (arith, c.if-q-3.false)) (omega (arith, c.if-q-4.false)) c.is_for.ensures
