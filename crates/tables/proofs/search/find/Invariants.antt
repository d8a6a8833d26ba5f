use Prim.Native.Nat.{ℕ}
use mathlib.Core.Bool.{Bool}
use Rattle.tables.specs.Index.{Tells}
use Rattle.tables.proofs.Searches.{rows_to, On, Searched}
use Rattle.tables.proofs.search.find.Given as goal

abbrev pub invariant-loop-at : goal.invariant-loop-at
invariant-loop-at g l = record {
  on : On l.rows l.t l.fn.from l.at;
  searched : (test : ℕ → Bool) → Tells (goal.F-post g l.has) test → Searched l.rows l.t l.fn.from test l.at;
}

abbrev pub decreases-loop-at : goal.decreases-loop-at
decreases-loop-at g l = rows_to l.at
