-- What is promised of reading a statement's text and writing it again.
-- Assumes nothing.
use Rattle.std.specs.Prelude.{ℕ, ◌<◌, ◌≤◌, ◌≡◌, List, T, length}
use Rattle.std.proofs.lemmas.List.Edits.{sets}
use Rattle.protocol.specs.Statement.{Stmt}
use Rattle.statements.specs.Text.{text}
use Rattle.statements.specs.Promise.{keeps_rules}

-- S is the text of a statement that keeps the field rules of a ring with this number of notices. Above 64 it counts as 64.
pub record IsStatement (notices : ℕ) (S : List ℕ) : Type 0 where
  pub statement : Stmt
  pub rules : T (keeps_rules notices statement)
  pub is : S ≡ text statement

-- n was answered for the text S and the memory out, which holds `after` then. What is written is S itself, from the start, and only the text of a
-- statement is; 0 says that nothing was written; and whatever is the text of a statement and has room is written.
pub record Again (notices : ℕ) (S out : List ℕ) (n : ℕ) (after : List ℕ) : Type 0 where
  pub only : 0 < n → IsStatement notices S × (n ≡ length S) × (after ≡ sets out 0 S)
  pub none : n ≡ 0 → after ≡ out
  pub back : IsStatement notices S → length S ≤ length out → n ≡ length S
