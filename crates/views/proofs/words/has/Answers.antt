use mathlib.Core.Path.{sym, ◌∙◌}
use borrow.Author.Tests.{le-ltb}
use Rattle.views.proofs.Sets.{bit-shift, bit-far}
use Rattle.views.proofs.words.has.Goals as goal

pub returns-then-k-lt-WIDTH : goal.returns-then-k-lt-WIDTH
returns-then-k-lt-WIDTH c = bit-shift _ _

pub returns-else-k-lt-WIDTH : goal.returns-else-k-lt-WIDTH
returns-else-k-lt-WIDTH c = le-ltb _ _ c.if-k-lt-WIDTH.false ∙ sym (bit-far 16 _ _ c.requires c.if-k-lt-WIDTH.false)
