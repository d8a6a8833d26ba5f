use Rattle.statements.proofs.Tells.{barred-at, bound_at, unbound-at}
use Rattle.statements.proofs.block.binding_at.Goals as goal

pub returns-then-has : goal.returns-then-has
returns-then-has c = barred-at c.args.block.now c.args.j _ 0 _ c.word.ensures c.has.ensures c.if-has.true

pub returns-then-has-2 : goal.returns-then-has-2
returns-then-has-2 c = bound_at c.args.block.now c.args.j _ _ _ c.word.ensures c.has.ensures c.if-has.false _ c.word-2.ensures c.has-2.ensures _ c.word-then-has-2.ensures c.if-has-2.true

pub returns : goal.returns
returns c = unbound-at c.args.block.now c.args.j _ _ _ c.word.ensures c.has.ensures c.if-has.false _ c.word-2.ensures c.has-2.ensures c.if-has-2.false
