use native.Mathlib.Omega.{arith}
use mathlib.Core.Path.{sym, ◌∙◌}
use borrow.Author.Tests.{le-ltb}
use Rattle.views.proofs.Sets.{bit-shift, bit-far}
use Rattle.statements.proofs.sets.has.Goals as goal

pub returns-then-j-lt-NOTICES : goal.returns-then-j-lt-NOTICES
returns-then-j-lt-NOTICES c = bit-shift c.args.j c.args.set

pub returns-else-j-lt-NOTICES : goal.returns-else-j-lt-NOTICES
returns-else-j-lt-NOTICES c = le-ltb _ _ c.if-j-lt-NOTICES.false ∙ sym (bit-far 64 c.args.set c.args.j (omega arith) c.if-j-lt-NOTICES.false)
