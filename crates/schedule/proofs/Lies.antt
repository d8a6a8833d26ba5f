-- A lie: its text is that of a statement, or of none.
-- Assumes nothing.
use Prim.Native.Nat.{ℕ, ◌<◌, min}
use mathlib.Core.Path.{◌≡◌, sym, ap, ◌∙◌}
use mathlib.Core.Bool.{true, false, false≢true}
use mathlib.Core.List.{List, [], ◌∷◌, ◌++◌}
use lib.Dec.{T, eqb, ltb, ltb→lt}
use lib.ListN.{take, drop}
use lib.Pointwise.{pointwise, bytes_decides}
use Rattle.std.proofs.Common.{take-append-drop}
use Rattle.std.specs.Prelude.{Option, Some, None}
use Rattle.protocol.specs.Statement.{Stmt, field_rules}
use Rattle.protocol.proofs.Rules.{and_first, and_second}
use Rattle.text.specs.Scan.{is_comma}
use Rattle.text.proofs.Laws.{comma-is, comma-only}
use Rattle.statements.specs.declared.Statement.{Statement}
use Rattle.statements.specs.Text.{parted, text}
use Rattle.statements.specs.Meaning.{stmt_of}
use Rattle.statements.specs.Promise.{ReadOf}
use Rattle.schedule.specs.declared.line.Line.TheVariants as is
use Rattle.schedule.specs.declared.verb.Verb.TheVariants.{Lie}
use Rattle.schedule.specs.Line.{lie, no_statement, lie_word, ended, Written}
use Rattle.schedule.specs.Reading.{BeginsWith, Lying, LiedOf, Understood}
use Rattle.schedule.proofs.Words.{begins, ended_same, reads_none}
use Rattle.schedule.proofs.Commands.{follows, put-together}

near-origin : (n : ℕ) (st : Statement) (B : List ℕ) → T (field_rules 16 n (stmt_of st B)) → st.origin < 16
unfolding field_rules stmt_of
near-origin n st B r = let a : T (ltb st.origin 16) = search (and_first, and_second) in ltb→lt st.origin 16 a

-- ---- a line that begins as a lie
module _ (T' : List ℕ) (by : BeginsWith Lie T') where
  pub no-comma : is_comma T' 3 ≡ false → Understood T' None
  unfolding parted
  no-comma e = record { reads = reads_none T' Lie by.word (λ s _ w. not-lie (text s) w.1, λ _ w. not-lie w.0 w.1) }
    where
      not-lie : (t : List ℕ) → ended T' ≡ ended (lie_word ++ 44 ∷ t) → ⊥
      not-lie t w = false≢true (sym e ∙ comma-is T' 3 t (follows T' lie_word (44 ∷ t) w))

  pub with-comma : is_comma T' 3 ≡ true → Understood T' (Some is.Lie)
  unfolding parted
  with-comma e = record { reads = (drop 4 T', put-together T' lie_word (44 ∷ drop 4 T') (begins T' Lie by.word) (comma-only T' 3 e)) }

-- ---- its statement

-- "lie,"
abbrev pub lie_start : List ℕ
lie_start = lie_word ++ 44 ∷ []

module _ (T' : List ℕ) (notices : ℕ) (B : List ℕ) where
  pub not-lie : pointwise eqb (take 4 T') lie_start ≡ false → LiedOf T' notices B None
  unfolding parted
  not-lie e = record {
    told = tt;
    untold = λ s w. false≢true (sym e ∙ (bytes_decides (take 4 T') lie_start).1 (ap (take 4) (ended_same T' (lie_start ++ text s) w.1)));
    near = tt;
    short = tt;
  }

  begun : pointwise eqb (take 4 T') lie_start ≡ true → T' ≡ lie_start ++ drop 4 T'
  begun e = sym (take-append-drop 4 T') ∙ ap (λ l. l ++ drop 4 T') ((bytes_decides (take 4 T') lie_start).0 e)

  pub lie-told : pointwise eqb (take 4 T') lie_start ≡ true → (r : Option Statement) → ReadOf (drop 4 T') notices B r → LiedOf T' notices B r
  unfolding parted
  lie-told b None of = record { told = tt; untold = λ s w. of.back s w.0 (follows T' lie_start (text s) w.1); near = tt; short = tt }
  lie-told b (Some s) of = record {
    told = (of.keeps, put-together T' lie_start (text (stmt_of s B)) (begun b) of.only);
    untold = tt;
    near = near-origin (min notices 64) s B of.keeps;
    short = of.short;
  }

module _ (T' : List ℕ) where
  -- a lie of no statement
  pub lie-untold : Lying T' → (n : ℕ) → ((s : Stmt) → ¬ Written n (lie s) (ended T')) → Written n no_statement (ended T')
  lie-untold l n o = (l.tells.0, l.tells.1, λ s f e. o s (f, l.tells.1 ∙ ap (λ (t : List ℕ). ended (parted (lie_word ∷ t ∷ []))) e))
