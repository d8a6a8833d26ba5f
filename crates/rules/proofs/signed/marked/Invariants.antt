use Prim.Native.Nat.{ℕ}
use mathlib.Core.List.{List}
use mathlib.Core.Bool.{Bool}
use Rattle.protocol.specs.Statement.{Stmt}
use Rattle.pool.specs.Pool.{record_up_to}
use Rattle.rules.specs.Rules.{Marks, PicksEach}
use Rattle.rules.proofs.signed.marked.Given as goal

abbrev pub invariant-loop-n : goal.invariant-loop-n
invariant-loop-n g l = (W : List ℕ) (q : ℕ → Stmt → Bool) → PicksEach (goal.F-post g l.pick) W q → Marks q (record_up_to W l.ids l.n-index) l.set
