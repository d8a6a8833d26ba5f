use borrow.Author.Tests.{not-true, not-false}
use mathlib.Core.Path.{sym, ◌∙◌}
use Rattle.views.proofs.Options.{option-none}
use Rattle.bench.proofs.States.{told-as, lie-early, lie-unmarked, lie-unknown, lie-again, lie-full, lie-taken}
use Rattle.bench.proofs.state.lie.Goals as goal

pub returns-then-not-g : goal.returns-then-not-g
returns-then-not-g c = lie-early _ _ c.args.st c.args.block.now _ c.requires.0 c.requires.2 c.refused.ensures (not-true _ c.if-not-g.true)

pub returns-then-not-is_marked : goal.returns-then-not-is_marked
returns-then-not-is_marked c = lie-unmarked _ _ c.args.st c.args.block.now _ c.requires.0 c.requires.2 (not-false _ c.if-not-g.false) c.refused-then-not-is_marked.ensures (sym c.is_marked.ensures ∙ c.if-not-is_marked.true)

pub returns-then-not-is_notice : goal.returns-then-not-is_notice
returns-then-not-is_notice c = lie-unknown _ _ c.args.st c.args.block.now _ c.requires.0 c.requires.2 (not-false _ c.if-not-g.false) (sym c.is_marked.ensures ∙ c.if-not-is_marked.false) c.refused-then-not-is_notice.ensures (sym c.is_notice.ensures ∙ c.if-not-is_notice.true)

pub returns-in-Some : goal.returns-in-Some
returns-in-Some c = lie-again _ _ c.args.st c.args.block.now _ c.requires.0 c.requires.2 (not-false _ c.if-not-g.false) (sym c.is_marked.ensures ∙ c.if-not-is_marked.false) (sym c.is_notice.ensures ∙ c.if-not-is_notice.false) c.refused-in-Some.ensures _ c.in-Some.ensures

pub returns-in_default-append : goal.returns-in_default-append
returns-in_default-append c = lie-full _ _ c.args.st c.args.block.now _ c.requires.0 c.requires.2 (not-false _ c.if-not-g.false) (sym c.is_marked.ensures ∙ c.if-not-is_marked.false) (sym c.is_notice.ensures ∙ c.if-not-is_notice.false) _ (option-none _ c.in_default.ensures) c.refused-in_default-append.ensures c.in_default-append.ensures

pub returns : goal.returns
returns c = lie-taken _ _ c.args.g c.args.st c.args.block.now c.requires.0 c.requires.2 c.requires.1 (not-false _ c.if-not-g.false) (sym c.is_marked.ensures ∙ c.if-not-is_marked.false) (sym c.is_notice.ensures ∙ c.if-not-is_notice.false) _ (option-none _ c.in_default.ensures) c.in-Ok.ensures _ (told-as c.taken.ensures c.told.ensures)
