-- What a writer promises: its text stands in the memory, and the rest is as it was.
-- Assumes nothing.
use Rattle.std.specs.Prelude.{ℕ, ◌+◌, ◌≡◌, List, length}
use Rattle.std.proofs.lemmas.List.Edits.{sets}

-- t was written over `out` from `at`, and n is the position after it.
pub record Wrote (out : List ℕ) (at : ℕ) (t : List ℕ) (n : ℕ) (after : List ℕ) : Type 0 where
  pub next : n ≡ at + length t
  pub is : after ≡ sets out at t
