-- What is promised of a pool whose statements go in and come out by their text.
-- Assumes nothing.
use Rattle.std.specs.Prelude.{ℕ, ◌≡◌, Bool, cond, ◌&&◌, List, Result, Ok, Err, T, ltb, leb, length}
use Rattle.pool.specs.declared.Full.{Full}
use Rattle.pool.specs.Pool.{stmt_at, pool_len}
use Rattle.pool.specs.Changes.{Appended}
use Rattle.statements.specs.declared.Statement.{Statement}
use Rattle.statements.specs.Meaning.{stmt_of}
use Rattle.statements.specs.Text.{text}
use Rattle.statements.specs.Promise.{keeps_rules}
use Rattle.std.proofs.lemmas.List.Edits.{sets}
use Rattle.host.specs.Statement.{IsStatement}

-- The number that is answered for where a statement went.
abbrev pub place_number : Result ℕ Full → ℕ
place_number (Ok i) = i
place_number (Err full) = 512

-- The statement of S, in a ring with this number of notices, went into the pool W, as `placed` says, and W' is the memory then: `pooled_in` names every word of it.
pub record Went (notices : ℕ) (S W W' : List ℕ) (r : ℕ) : Type 0 where
  pub statement : Statement
  pub block : List ℕ
  pub rules : T (keeps_rules notices (stmt_of statement block))
  pub is : S ≡ text (stmt_of statement block)
  pub placed : Result ℕ Full
  pub appended : Appended W W' statement block placed
  pub answer : r ≡ place_number placed

-- Either the statement went in, or S is the text of none, and 513 says so.
pub record AppendedText (notices : ℕ) (S W : List ℕ) (r : ℕ) (W' : List ℕ) : Type 0 where
  pub went : IsStatement notices S → Went notices S W W' r
  pub refused : (IsStatement notices S → ⊥) → (r ≡ 513) × (W' ≡ W)

-- The pool has a statement n, and `out` has room for its text.
unfoldable pub text_fits : List ℕ → ℕ → List ℕ → Bool
text_fits W n out = ltb n (pool_len W) && leb (length (text (stmt_at W n))) (length out)

-- r was answered for the text of statement n over `out`, which holds `after` then: the text's length, with the text from the start on, or 0 and nothing.
pub record Texted (W : List ℕ) (n : ℕ) (out : List ℕ) (r : ℕ) (after : List ℕ) : Type 0 where
  pub count : r ≡ cond (text_fits W n out) (length (text (stmt_at W n))) 0
  pub is : after ≡ cond (text_fits W n out) (sets out 0 (text (stmt_at W n))) out
