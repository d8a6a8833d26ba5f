-- What callers cite of reading and writing a statement.
--     written-reads  what is written reads back, as the same statement
--     read-text      what is read is the text of what was read, and no other
--     refused        a text that is refused is that of no statement that keeps the field rules
--     text-some      no text is empty
--     text-most      no text of a statement that keeps the field rules is longer than 3120 bytes; read-most: nor one that is read;
--                    means-most: nor that of any Statement with at most 16 views
--     stands         what was written stands at the start of the memory
--     count-some     0 is answered only where nothing is written
-- Assumes nothing.
use Prim.Native.Nat.{ℕ, ◌+◌, ◌*◌, ◌<◌, ◌≤◌, min}
use native.Mathlib.Omega.{arith}
use mathlib.Core.Path.{◌≡◌, ap, ◌∙◌}
use mathlib.Core.Bool.{Bool, true, false, ◌&&◌, false≢true}
use mathlib.Core.List.{List, [], ◌∷◌, ◌++◌}
use lib.Dec.{T, eqb, leb}
use lib.ListN.{length, take, drop, length-append}
use lib.Seq.{sets, sets-eq, take-append_seam}
use borrow.Author.Tests.{leb-true}
use Rattle.std.specs.Prelude.{Option, Some, None}
use Rattle.std.specs.Option.{IsSomeAnd}
use Rattle.text.specs.Text.{dec_text}
use Rattle.text.proofs.Decimal.{one-long, long-below, most-long}
use Rattle.protocol.specs.Statement.{Group, Stmt, only}
use Rattle.statements.specs.declared.Statement.{Statement}
use Rattle.statements.specs.Text.{text}
use Rattle.statements.specs.Meaning.{Each, limit, first_fields, FitsGroup, FitsTold, Fits, stmt_of}
use Rattle.statements.specs.Promise.{keeps_rules, ReadOf, is_writable, written_count, written}
use Rattle.statements.specs.Parts.{each, comma_number, tail_text, views_text, start_text, first_text, group_text, groups_text}
use Rattle.statements.proofs.Sequence.{each-one}
use Rattle.statements.proofs.Views.{tail-long}
use Rattle.statements.proofs.Statements.{text-is}
use Rattle.statements.proofs.Written.{first-size, second-size}
use Rattle.statements.proofs.Fits.{keeps-fits, means-fits}

-- ---- reading
pub refused : {S : List ℕ} {n : ℕ} {B : List ℕ} → ReadOf S n B None → (t : Stmt) → T (keeps_rules n t) → S ≡ text t → ⊥
refused p = p.back

pub read-text : {S : List ℕ} {n : ℕ} {B : List ℕ} {s : Statement} → ReadOf S n B (Some s) → (S ≡ text (stmt_of s B)) × T (keeps_rules n (stmt_of s B))
read-text p = (p.only, p.keeps)

-- ---- writing
first-long : (t : Stmt) → length (first_text (first_fields t)) ≡ length (dec_text t.kind) + length (dec_text t.origin) + length (dec_text t.notice) + 20
unfolding first_text
first-long t = length-append (start_text t.kind t.origin t.at t.view) (comma_number t.notice) ∙ omega (arith, first-size t.kind t.origin t.at t.view)

-- how long a text is
pub text-long : (t : Stmt) → length (text t) ≡ length (dec_text t.kind) + length (dec_text t.origin) + length (dec_text t.notice) + length (groups_text t.groups) + length (dec_text (length t.views)) + 21 + 9 * length t.views
text-long t =
    ap length (text-is t)
    ∙ omega (arith, length-append (first_text (first_fields t)) (groups_text t.groups ++ views_text t.views), length-append (groups_text t.groups) (views_text t.views), length-append (dec_text (length t.views)) (tail_text t.views), tail-long t.views, first-long t)

pub text-some : (t : Stmt) → 0 < length (text t)
text-some t = omega (arith, text-long t)

limit-long : (b : Bool) (m : ℕ) → m ≤ limit b → length (dec_text m) ≤ 20
limit-long true m h = most-long m (omega arith)
limit-long false m h = most-long m (omega arith)

group-most : (g : Group) → FitsGroup g → length (group_text g) ≤ 46
group-most g f =
    omega (arith, second-size g.binding g.payload g.stored g.kept, one-long g.binding (omega (arith, f.binding)), one-long g.stored (omega (arith, f.stored)), limit-long (eqb g.binding 1) g.payload f.payload, limit-long (eqb g.stored 1) g.kept f.kept)

groups-most : (l : List Group) → Each FitsGroup l → length (groups_text l) ≤ 46 * length l
unfolding each
groups-most [] f = omega arith
groups-most (g ∷ l) f = omega (arith, length-append (group_text g) (groups_text l), group-most g f.0, groups-most l f.1)

told-most : (b : Bool) (n : ℕ) (l : List Group) → n ≤ 64 → FitsTold b n l → length (groups_text l) ≤ 2944
told-most true n l h f = omega (arith, groups-most l f.1, f.0)
told-most false n l h (m, k, e) =
    omega (arith, ap (λ x. length (groups_text x)) e ∙ ap length (each-one group_text (only m)) ∙ second-size 0 m 0 0, one-long 0 (omega arith), most-long m (omega arith))

-- NO TEXT IS LONGER
fits-most : (n : ℕ) (t : Stmt) → n ≤ 64 → Fits n t → length (text t) ≤ 3120
fits-most n t h f =
    omega (
      arith,
      text-long t,
      long-below 2 t.kind (omega (arith, f.first.kind)),
      long-below 2 t.origin (omega (arith, f.first.origin)),
      long-below 2 t.notice (omega (arith, f.first.notice)),
      long-below 1 (length t.views) (omega (arith, f.views.0)),
      f.views.0,
      told-most (eqb t.kind 5) n t.groups h f.told,
    )

pub text-most : (n : ℕ) (t : Stmt) → T (keeps_rules n t) → length (text t) ≤ 3120
text-most n t k = fits-most (min n 64) t (omega arith) (keeps-fits (min n 64) t k)

pub means-most : (s : Statement) (B : List ℕ) → s.kind ≤ 255 → s.origin ≤ 255 → s.notice ≤ 255 → s.payload ≤ 18446744073709551615 → s.history.len ≤ 16 → length (text (stmt_of s B)) ≤ 3120
means-most s B k o n p l = fits-most (min s.groups 64) (stmt_of s B) (omega arith) (means-fits s B k o n p l)

pub read-most : {S : List ℕ} {n : ℕ} {B : List ℕ} {s : Statement} → ReadOf S n B (Some s) → length S ≤ 3120
read-most {n = n} {B = B} {s = s} p = omega (arith, ap length p.only, text-most n (stmt_of s B) p.keeps)

module _ (s : Statement) (B : List ℕ) (out : List ℕ) (room : is_writable s B out ≡ true) where
  pub count-is : written_count s B out ≡ length (text (stmt_of s B))
  unfolding written_count
  count-is = rw room

  pub count-some : 0 < written_count s B out
  count-some = omega (arith, count-is, text-some (stmt_of s B))

  enough : length (text (stmt_of s B)) ≤ length out
  unfolding is_writable
  enough = leb-true (length (text (stmt_of s B))) (length out) (right (leb s.history.len 16) (leb (length (text (stmt_of s B))) (length out)) room)
    where
      right : (a b : Bool) → (a && b) ≡ true → b ≡ true
      right true b e = e
      right false b e = absurd (false≢true e)

  pub stands : take (written_count s B out) (written s B out) ≡ text (stmt_of s B)
  unfolding written
  stands =
      let t : List ℕ = text (stmt_of s B) in
      let h : 0 + length t ≤ length out = omega (arith, enough) in
      rw room (ap (λ (n : ℕ). take n (sets out 0 t)) count-is ∙ ap (take (length t)) (sets-eq t out 0 h) ∙ take-append_seam t (drop (0 + length t) out))

  -- WHAT IS WRITTEN READS BACK
  pub written-reads : (n : ℕ) (B' : List ℕ) (r : Option Statement) → T (keeps_rules n (stmt_of s B)) → ReadOf (take (written_count s B out) (written s B out)) n B' r → IsSomeAnd r (λ s'. stmt_of s' B' ≡ stmt_of s B)
  written-reads n B' r k p = p.back (stmt_of s B) k stands
