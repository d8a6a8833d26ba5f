use mathlib.Core.Path.{sym, ◌∙◌}
use Rattle.bench.proofs.States.{setup-read, setup-again, setup-barred, setup-shut, setup-taken}
use Rattle.bench.proofs.state.set_up.Goals as goal

pub unreachable-requires : goal.unreachable-requires
unreachable-requires c = absurd (setup-read _ _ _ c.in_default.ensures c.requires.1)

pub returns-then-g : goal.returns-then-g
returns-then-g c = setup-again _ _ c.args.text.now _ _ _ c.in-Some.ensures _ c.requires.0 c.shown_sender-who.ensures c.refused.ensures c.if-g.true

pub returns-then-not-is_allowed : goal.returns-then-not-is_allowed
returns-then-not-is_allowed c = setup-barred _ _ c.args.text.now _ _ _ c.in-Some.ensures _ c.requires.0 c.shown_sender-who.ensures c.refused-then-not-is_allowed.ensures (sym c.is_allowed.ensures ∙ c.if-not-is_allowed.true)

pub returns-then-not-are_allowed : goal.returns-then-not-are_allowed
returns-then-not-are_allowed c = setup-shut _ _ c.args.text.now _ _ _ c.in-Some.ensures _ c.requires.0 c.shown_sender-who.ensures c.refused-then-not-are_allowed.ensures c.if-g.false (sym c.is_allowed.ensures ∙ c.if-not-is_allowed.false) (sym c.are_allowed.ensures ∙ c.if-not-are_allowed.true)

pub returns : goal.returns
returns c = setup-taken _ c.args.g c.args.text.now _ _ _ c.in-Some.ensures _ c.shown_sender-who.ensures c.clear.ensures c.if-g.false (sym c.is_allowed.ensures ∙ c.if-not-is_allowed.false) (sym c.are_allowed.ensures ∙ c.if-not-are_allowed.false)
