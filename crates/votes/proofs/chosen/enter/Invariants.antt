use Prim.Native.Nat.{ℕ, ◌≤◌}
use mathlib.Core.Bool.{Bool}
use mathlib.Core.List.{List}
use Rattle.protocol.specs.View.{View}
use Rattle.protocol.specs.Statement.{Stmt}
use Rattle.votes.specs.Chosen.{Answers, OtherTables, GroupRows}
use Rattle.votes.proofs.chosen.enter.Given as goal

abbrev pub invariant-loop-g : goal.invariant-loop-g
invariant-loop-g h l = record {
  fewer : l.count ≤ l.g;
  entered : (W : List ℕ) (of : Stmt → View) (test : Stmt → Bool) → Answers W l.ids l.groups of test l.n (goal.F-post h l.word) → GroupRows W l.ids l.groups l.t of test l.g l.keys l.rows l.count;
  others : OtherTables l.t l.initial.keys l.initial.rows l.keys l.rows;
}
