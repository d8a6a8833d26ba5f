-- The numbers of the kinds of statements, as 01's list of kinds has them.
-- Assumes nothing.
use Rattle.std.specs.Prelude.{◌≡◌, ℕ, ◌<◌, Result, MatchResult, ◌⊎◌}
use Rattle.statements.specs.declared.kind.Kind.{Kind}
use Rattle.statements.specs.declared.kind.Kind.TheVariants.{Join, Leave, AgreeView, AgreeHistory, Report, Prepare, Ack, Store}
use Rattle.statements.specs.declared.kind.UnknownKind.{UnknownKind}

abbrev pub kind_number : Kind → ℕ
kind_number Join = 1
kind_number Leave = 2
kind_number AgreeView = 3
kind_number AgreeHistory = 4
kind_number Report = 5
kind_number Prepare = 6
kind_number Ack = 7
kind_number Store = 8

-- What a number stands for: the kind that has it; or it is told that none has it.
abbrev pub KindOf : ℕ → Result Kind UnknownKind → Type 0
KindOf n r = MatchResult r (λ k. kind_number k ≡ n) (λ e. (e.0 ≡ n) × ((n < 1) ⊎ (8 < n)))
