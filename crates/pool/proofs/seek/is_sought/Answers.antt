use Rattle.std.proofs.Common.{arith, ◌∙◌}
use Rattle.std.proofs.lemmas.Bool.Decides.{nat_tests}
use Rattle.pool.proofs.Laws.{kind-small, origin-small}
use Rattle.pool.proofs.Searches.{sought}
use Rattle.pool.proofs.seek.is_sought.Goals as goal

pub returns-then-same_history : goal.returns-then-same_history
returns-then-same_history c = λ s. grind (arith, nat_tests) ∙ sought c.args.st.now c.args.block.now _ c.args.key c.args.at c.args.view s (kind-small _ _, origin-small _ _)

pub returns-else-same_history : goal.returns-else-same_history
returns-else-same_history c = λ s. grind (arith, nat_tests) ∙ sought c.args.st.now c.args.block.now _ c.args.key c.args.at c.args.view s (kind-small _ _, origin-small _ _)
