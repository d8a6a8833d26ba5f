-- A text that was read, and written again.
-- Assumes nothing.
use Prim.Native.Nat.{ℕ, ◌≤◌}
use native.Mathlib.Omega.{arith}
use mathlib.Core.Path.{◌≡◌, refl, sym, ap, ◌∙◌}
use mathlib.Core.Bool.{Bool, true, false, false≢true}
use mathlib.Core.List.{List}
use lib.ListN.{length}
use borrow.Author.Tests.{le-leb}
use Rattle.std.specs.Prelude.{Some, None}
use Rattle.statements.specs.declared.Statement.{Statement}
use Rattle.statements.specs.Text.{text}
use Rattle.statements.specs.Meaning.{stmt_of}
use Rattle.statements.specs.Promise.{ReadOf, is_writable, written_count, written}
use Rattle.statements.proofs.Laws.{text-some}
use Rattle.host.specs.Statement.{IsStatement, Again}

module _ (notices : ℕ) (S B : List ℕ) where
  pub not-read : ReadOf S notices B None → IsStatement notices S → ⊥
  not-read p s = p.back s.statement s.rules s.is

  unfoldable pub is-statement : (s : Statement) → ReadOf S notices B (Some s) → IsStatement notices S
  is-statement s p = record { statement = stmt_of s B; rules = p.keeps; is = p.only }

-- nothing is written for what is the text of no statement
pub nothing : (notices : ℕ) (S out : List ℕ) → (IsStatement notices S → ⊥) → Again notices S out 0 out
nothing notices S out f = record { only = λ l. absurd (omega arith); none = λ e. refl; back = λ s l. absurd (f s) }

module _ (notices : ℕ) (S B : List ℕ) (s : Statement) (p : ReadOf S notices B (Some s)) (out : List ℕ) where
  roomy : length (text (stmt_of s B)) ≤ length out → is_writable s B out ≡ true
  unfolding is_writable
  roomy l = rw (le-leb s.history.len 16 p.short, le-leb (length (text (stmt_of s B))) (length out) l)

  room : (b : Bool) → is_writable s B out ≡ b → Again notices S out (written_count s B out) (written s B out)
  unfolding written_count written
  room true e =
      let is : S ≡ text (stmt_of s B) = p.only in
      rw (e, ← is) record {
        only = λ l. (is-statement notices S B s p, refl, refl);
        none = λ z. absurd (omega (arith, text-some (stmt_of s B), ap length is));
        back = λ s l. refl;
      }
  room false e = rw e record { only = λ l. absurd (omega arith); none = λ z. refl; back = λ q l. absurd (false≢true (sym e ∙ roomy (omega (arith, ap length p.only)))) }

  pub again : (n : ℕ) (after : List ℕ) → n ≡ written_count s B out → after ≡ written s B out → Again notices S out n after
  again n after e f = rw (e, f) (room (is_writable s B out) refl)
