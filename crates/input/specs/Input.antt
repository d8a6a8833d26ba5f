-- What reading an input answers. No contract can say which bytes the system read or wrote.
-- Assumes nothing.
use Rattle.std.specs.Prelude.{ℕ, ◌≤◌, Result, IfOk}
use Rattle.std.specs.declared.io.Error.{Error}

-- What was read is within memory of that size.
abbrev pub InputWithin : Result ℕ Error → ℕ → Type 0
InputWithin r size = IfOk r (λ n. n ≤ size)
