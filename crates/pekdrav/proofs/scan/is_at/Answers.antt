use borrow.Author.Tests.{le-ltb}
use mathlib.Core.Path.{◌∙◌}
use native.Mathlib.Omega.{arith}
use Rattle.pool.proofs.Laws.{at-fits}
use Rattle.pekdrav.specs.Scan.{is_at}
use Rattle.pekdrav.proofs.Keys.{small, far_at, key-at}
use Rattle.pekdrav.proofs.scan.is_at.Goals as goal

pub returns-else-at-lt-WORDS : goal.returns-else-at-lt-WORDS
unfolding is_at
returns-else-at-lt-WORDS c = le-ltb _ _ (omega arith) ∙ far_at c.at-t.result c.args.at _ c.args.kind _ c.at-t.ensures (at-fits _ _) (omega arith) (omega arith) (omega arith)

pub overflow_add-result : goal.overflow_add-result
overflow_add-result c = omega (arith, small c.at-t.result _ c.at-t.ensures (at-fits _ _) (omega arith), c.kind-k.ensures.1)

pub returns-then-at-lt-WORDS : goal.returns-then-at-lt-WORDS
unfolding is_at
returns-then-at-lt-WORDS c = key-at c.at-t.result c.args.at _ c.args.kind _ c.at-t.ensures (at-fits _ _) (omega arith) (omega arith) c.kind-k.result (omega arith) c.kind-k.ensures.0
