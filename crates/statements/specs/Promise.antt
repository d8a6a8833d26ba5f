-- What is promised of reading and writing a statement.
-- Assumes nothing.
use Rattle.std.specs.Prelude.{ℕ, ◌≤◌, min, ◌≡◌, Bool, cond, ◌&&◌, List, Option, IfSome, T, leb, length}
use Rattle.std.specs.Option.{IsSomeAnd}
use Rattle.std.proofs.lemmas.List.Edits.{sets}
use Rattle.protocol.specs.Statement.{Stmt, field_rules}
use Rattle.statements.specs.declared.Statement.{Statement}
use Rattle.statements.specs.Text.{text}
use Rattle.statements.specs.Meaning.{stmt_of, Fits}

-- The field rules in a ring with this number of notices. Above 64 it counts as 64.
abbrev pub keeps_rules : ℕ → Stmt → Bool
keeps_rules notices s = field_rules 16 (min notices 64) s

-- Reading S, with the block B after it: an accepted text is exactly that of the statement that is answered, and this keeps the field rules; and the text of every
-- statement that keeps them is accepted, as that statement. So a text that is refused is that of none.
pub record ReadOf (S : List ℕ) (notices : ℕ) (B : List ℕ) (r : Option Statement) : Type 0 where
  pub only : IfSome r (λ s. S ≡ text (stmt_of s B))
  pub keeps : IfSome r (λ s. T (keeps_rules notices (stmt_of s B)))
  pub back : (t : Stmt) → T (keeps_rules notices t) → S ≡ text t → IsSomeAnd r (λ s. stmt_of s B ≡ t)
  pub short : IfSome r (λ s. s.history.len ≤ 16)

-- The same for every statement that fits, whether or not it keeps the rules of its kind.
pub record ParseOf (S : List ℕ) (n : ℕ) (B : List ℕ) (r : Option Statement) : Type 0 where
  pub only : IfSome r (λ s. S ≡ text (stmt_of s B))
  pub back : (t : Stmt) → Fits n t → S ≡ text t → IsSomeAnd r (λ s. stmt_of s B ≡ t)
  pub short : IfSome r (λ s. s.history.len ≤ 16)

-- A statement is written if it has at most 16 views and its text has room.
unfoldable pub is_writable : Statement → List ℕ → List ℕ → Bool
is_writable s B out = leb s.history.len 16 && leb (length (text (stmt_of s B))) (length out)

-- Writing s over out: the count of bytes, and what out holds then. Without room that is 0, and out as it was.
unfoldable pub written_count : Statement → List ℕ → List ℕ → ℕ
written_count s B out = cond (is_writable s B out) (length (text (stmt_of s B))) 0

unfoldable pub written : Statement → List ℕ → List ℕ → List ℕ
written s B out = cond (is_writable s B out) (sets out 0 (text (stmt_of s B))) out
