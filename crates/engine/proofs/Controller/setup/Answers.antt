use mathlib.Core.Path.{refl}
use borrow.Author.Tests.{not-true, not-false}
use Rattle.engine.specs.declared.Refusal.TheVariants.{BadSetup, BadWindow}
use Rattle.windows.proofs.Windows.{few-windows}
use Rattle.engine.proofs.Requests.{barred, began, setup-again, setup-barred, setup-shut, setup-taken, few-notices}
use Rattle.engine.proofs.Controller.setup.Goals as goal

pub returns-then-self : goal.returns-then-self
returns-then-self c = barred _ c.args.self BadSetup refl refl (λ X. setup-again c.args.self X _ _ c.if-self.true)

pub returns-then-not-is_allowed : goal.returns-then-not-is_allowed
returns-then-not-is_allowed c = barred _ c.args.self BadSetup refl refl (λ X. setup-barred c.args.self X _ _ _ c.if-self.false c.is_allowed.ensures (not-true _ c.if-not-is_allowed.true-raw))

pub returns-then-not-are_allowed : goal.returns-then-not-are_allowed
returns-then-not-are_allowed c = barred _ c.args.self BadWindow refl refl (λ X. setup-shut c.args.self X _ _ _ c.if-self.false c.is_allowed.ensures (not-false _ c.if-not-is_allowed.false-raw) _ c.are_allowed.ensures (not-true _ c.if-not-are_allowed.true-raw))

pub start-requires : goal.start-requires
start-requires c = (few-notices _ _ _ _ _ c.is_allowed.ensures (not-false _ c.if-not-is_allowed.false-raw), few-windows _ _ _ c.are_allowed.ensures (not-false _ c.if-not-are_allowed.false-raw))

pub returns : goal.returns
returns c = began c.args.self c.start.result refl refl c.start.ensures c.record_clear.ensures (λ X. setup-taken c.args.self X _ _ _ c.if-self.false c.is_allowed.ensures (not-false _ c.if-not-is_allowed.false-raw) _ c.are_allowed.ensures (not-false _ c.if-not-are_allowed.false-raw))
