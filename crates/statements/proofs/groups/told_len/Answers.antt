use native.Mathlib.Omega.{arith}
use mathlib.Core.Path.{ap, ◌∙◌}
use lib.ListN.{length}
use Rattle.statements.proofs.Written.{told-report-text, told-other-size}
use Rattle.statements.proofs.groups.told_len.Goals as goal

pub returns-then-st : goal.returns-then-st
returns-then-st c = (c.groups_len.ensures.0 ∙ ap length (told-report-text c.args.st.now.kind c.args.st.now.groups c.args.st.now.payload c.args.block.now c.if-st.true _ c.min.ensures), omega (arith, c.groups_len.ensures.1, c.min.ensures))

pub returns-else-st : goal.returns-else-st
returns-else-st c = (omega (arith, c.dec_len.ensures.0, told-other-size c.args.st.now.kind c.args.st.now.groups c.args.st.now.payload c.args.block.now c.if-st.false), omega (arith, c.dec_len.ensures.2))
