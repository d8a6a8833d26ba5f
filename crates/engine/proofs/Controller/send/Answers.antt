use mathlib.Core.Path.{refl, sym, ◌∙◌}
use borrow.Author.Tests.{not-true, not-false}
use Rattle.engine.proofs.Requests.{sends-unready, sends-unknown, sends-other, sends-again, sends-taken}
use borrow.Author.Rules.{rules}
use Rattle.engine.proofs.Controller.send.Goals as goal
use Rattle.engine.proofs.Controller.send.Goals.{then-self-j-via-then-self-j, then-self-j-via-else-self-j+then-has}

pub returns-then-not-self : goal.returns-then-not-self
returns-then-not-self c = sends-unready c.args.self _ _ _ (refl, refl) (not-true _ c.if-not-self.true-raw)

pub returns-then-not-is_notice : goal.returns-then-not-is_notice
returns-then-not-is_notice c = sends-unknown c.args.self _ _ _ (not-false _ c.if-not-self.false-raw) (refl, refl) (sym c.is_notice.ensures ∙ not-true _ c.if-not-is_notice.true-raw)

pub returns-then-self-j : goal.returns-then-self-j
returns-then-self-j c = elim c.then-self-j.branch [
  | then-self-j-via-then-self-j w ↦ sends-other c.args.self _ _ _ (not-false _ c.if-not-self.false-raw) (sym c.is_notice.ensures ∙ not-false _ c.if-not-is_notice.false-raw) (refl, refl) w.if-self-j.true
  | then-self-j-via-else-self-j+then-has w ↦ sends-again c.args.self _ _ _ (not-false _ c.if-not-self.false-raw) (sym c.is_notice.ensures ∙ not-false _ c.if-not-is_notice.false-raw) w.if-self-j.false (refl, refl) (sym w.has.ensures ∙ w.if-has.true)
]

pub returns : goal.returns
returns c = sends-taken c.args.self _ _ _ (not-false _ c.if-not-self.false-raw) (sym c.is_notice.ensures ∙ not-false _ c.if-not-is_notice.false-raw) c.if-self-j.false _ (refl, refl) (sym c.has.ensures ∙ c.if-has.false) c.with_notice.ensures c.well_formed.0.1.1.1.1.1.1.1.1.1.1.1.0.1 (search rules) (c.well_formed.0.1.1.1.1.1.1.1.1.1.0.1.0.1)
