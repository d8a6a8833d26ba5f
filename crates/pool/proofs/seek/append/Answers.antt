use native.Mathlib.Omega.{arith}
use mathlib.Core.Path.{sym, ◌∙◌}
use Rattle.pool.proofs.Searches.{append-old, append-full, append-new}
use Rattle.pool.proofs.seek.append.Goals as goal

pub returns-in-Some : goal.returns-in-Some
returns-in-Some c = append-old _ _ _ _ (sym c.in-Some.is ∙ c.find.ensures)

pub returns-then-n-ge-CAPACITY : goal.returns-then-n-ge-CAPACITY
returns-then-n-ge-CAPACITY c = append-full _ _ _ _ (sym c.in_default.is ∙ c.find.ensures) c.pool_len-n.ensures.0 c.if-n-ge-CAPACITY.true

pub returns : goal.returns
returns c = append-new _ _ _ _ _ (omega arith) (sym c.in_default.is ∙ c.find.ensures) c.pool_len-n.ensures.0 (omega arith) c.put.ensures
