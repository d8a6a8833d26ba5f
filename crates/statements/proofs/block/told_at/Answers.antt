use mathlib.Core.Path.{refl}
use mathlib.Core.Bool.{false}
use Rattle.statements.proofs.Tells.{nothing-past, told-made}
use Rattle.statements.proofs.block.told_at.Goals as goal

pub returns-then-j-ge-NOTICES : goal.returns-then-j-ge-NOTICES
returns-then-j-ge-NOTICES c = nothing-past c.args.block.now c.args.j c.if-j-ge-NOTICES.true false 0 refl

pub returns : goal.returns
returns c = told-made c.args.block.now c.args.j c.binding_at.result _ _ _ c.binding_at.ensures c.word.ensures c.has.ensures c.word-2.ensures
