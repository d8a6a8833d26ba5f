-- A statement's text, written in runs, one after the other.
-- Assumes nothing.
use Prim.Native.Nat.{ℕ, zero, suc, ◌+◌, ◌*◌, ◌<◌, ◌≤◌, min}
use native.Mathlib.Decide.{dec_lt}
use native.Mathlib.Numerals.{add-one}
use native.Mathlib.Omega.{arith}
use mathlib.Core.Path.{◌≡◌, refl, sym, ap, ◌∙◌}
use mathlib.Core.Bool.{Bool, true, false}
use mathlib.Core.List.{List, [], ◌∷◌, ◌++◌, append_assoc}
use lib.Dec.{leb}
use lib.ListN.{length, length-append}
use borrow.Author.Tests.{le-leb, lt-leb, eq-eqb, ne_eqb}
use Rattle.text.specs.Text.{dec_text}
use Rattle.text.proofs.Decimal.{one-long}
use Rattle.text.specs.Written.{Wrote}
use Rattle.text.proofs.Stores.{both, wrote_as}
use Rattle.protocol.specs.View.{View}
use Rattle.protocol.specs.Lists.{when, list_of}
use Rattle.protocol.specs.Statement.{Group, only, binding_number, binding_payload, stored_number, kept_payload}
use Rattle.protocol.specs.Statement as statement
use Rattle.statements.specs.declared.Told.{Told}
use Rattle.statements.specs.declared.Statement.{Statement}
use Rattle.statements.specs.Text.{view_text, text}
use Rattle.views.specs.Held.{view_is}
use Rattle.statements.specs.Block.{binding_is, told_is, group_at, groups_of}
use Rattle.statements.specs.Meaning.{first_views, stmt_of}
use Rattle.statements.specs.Promise.{is_writable, written_count, written}
use Rattle.statements.specs.Parts.{each, comma_number, tail_text, start_text, first_text, second_text, group_text, groups_text}
use Rattle.statements.proofs.Fields.{view-long}
use Rattle.statements.proofs.Sequence.{each-one, each_more}
use Rattle.statements.proofs.Views.{first-long, tail-long}
use Rattle.statements.proofs.Statements.{text-is}

-- ---- runs

first_run : (k o : ℕ) (a v : View) → start_text k o a v ≡ dec_text k ++ ((44 ∷ dec_text o) ++ ((44 ∷ view_text a) ++ (44 ∷ view_text v)))
unfolding start_text
first_run k o a v = refl

second_run : (b p s e : ℕ) → second_text b p s e ≡ (44 ∷ dec_text b) ++ ((44 ∷ dec_text p) ++ ((44 ∷ dec_text s) ++ (44 ∷ dec_text e)))
unfolding second_text
second_run b p s e = refl

pub first-size : (k o : ℕ) (a v : View) → length (start_text k o a v) ≡ length (dec_text k) + length (dec_text o) + 19
first-size k o a v =
    ap length (first_run k o a v)
    ∙ omega (arith, length-append (dec_text k) ((44 ∷ dec_text o) ++ ((44 ∷ view_text a) ++ (44 ∷ view_text v))), length-append (dec_text o) ((44 ∷ view_text a) ++ (44 ∷ view_text v)), length-append (view_text a) (44 ∷ view_text v), view-long a, view-long v)

pub second-size : (b p s e : ℕ) → length (second_text b p s e) ≡ length (dec_text b) + length (dec_text p) + length (dec_text s) + length (dec_text e) + 4
second-size b p s e =
    ap length (second_run b p s e)
    ∙ omega (arith, length-append (dec_text b) ((44 ∷ dec_text p) ++ ((44 ∷ dec_text s) ++ (44 ∷ dec_text e))), length-append (dec_text p) ((44 ∷ dec_text s) ++ (44 ∷ dec_text e)), length-append (dec_text s) (44 ∷ dec_text e))

-- ---- what is told of one notice

one-digit : (b : statement.Binding) → length (dec_text (binding_number b)) ≡ 1
one-digit statement.unbound = one-long 0 (omega arith)
one-digit (statement.bound m) = one-long 1 (omega arith)
one-digit statement.barred = one-long 2 (omega arith)

one_bit : (b : Bool) (m : ℕ) → length (dec_text (stored_number (when b m))) ≡ 1
one_bit true m = one-long 1 (omega arith)
one_bit false m = one-long 0 (omega arith)

pub group-size : (t : Told) (p k : ℕ) → p ≡ binding_payload (binding_is t.binding) → k ≡ kept_payload (when t.stored t.kept) → length (dec_text p) + length (dec_text k) + 6 ≡ length (group_text (told_is t))
group-size t p k ep ek =
    let b = binding_is t.binding in
    let m = when t.stored t.kept in
    ap (λ x. length (dec_text x) + length (dec_text k) + 6) ep ∙ ap (λ x. length (dec_text (binding_payload b)) + length (dec_text x) + 6) ek
    ∙ sym (second-size (binding_number b) (binding_payload b) (stored_number m) (kept_payload m) ∙ omega (arith, one-digit b, one_bit t.stored t.kept))

-- ---- for each notice

module _ (f : ℕ → Group) where
  pub groups-next-text : (j : ℕ) → groups_text (list_of (j + 1) f) ≡ groups_text (list_of j f) ++ group_text (f j)
  unfolding list_of
  groups-next-text j = ap (λ n. groups_text (list_of n f)) (add-one j) ∙ each_more group_text (list_of j f) (f j)

  pub groups-next-size : (j : ℕ) → length (groups_text (list_of (j + 1) f)) ≡ length (groups_text (list_of j f)) + length (group_text (f j))
  groups-next-size j = ap length (groups-next-text j) ∙ length-append (groups_text (list_of j f)) (group_text (f j))

  pub groups_none : groups_text (list_of 0 f) ≡ []
  unfolding list_of each
  groups_none = refl

  pub groups-first : (out : List ℕ) (from : ℕ) → Wrote out from (groups_text (list_of 0 f)) from out
  groups-first out from = wrote_as (sym groups_none) (record { next = omega arith; is = refl })

  -- the next one has room where all have
  pub groups-room : (n j : ℕ) → j < n → length (groups_text (list_of j f)) + length (group_text (f j)) ≤ length (groups_text (list_of n f))
  groups-room zero j h = absurd (omega arith)
  groups-room (suc n) j h = elim (dec_lt j n) [
    | yes l ↦ omega (arith, groups-room n j l, groups-next-size n, ap (λ k. length (groups_text (list_of k f))) (add-one n))
    | no l ↦ (let e : j ≡ n = omega arith in rw e (omega (arith, groups-next-size n, ap (λ k. length (groups_text (list_of k f))) (add-one n))))
  ]

  pub groups-put : {out₀ out₁ out₂ : List ℕ} {from at n : ℕ} (j : ℕ) (g : Group) → g ≡ f j → Wrote out₀ from (groups_text (list_of j f)) at out₁ → Wrote out₁ at (group_text g) n out₂ → Wrote out₀ from (groups_text (list_of (j + 1) f)) n out₂
  groups-put j g e a b = wrote_as (ap (λ x. groups_text (list_of j f) ++ group_text x) e ∙ sym (groups-next-text j)) (both a b)

-- ---- by the kind

module _ (kind groups payload : ℕ) (B : List ℕ) where
  abbrev told : List ℕ
  told = groups_text (groups_of kind groups payload B)

  pub told-report-text : kind ≡ 5 → (m : ℕ) → m ≡ min groups 64 → groups_text (list_of m (group_at B)) ≡ told
  unfolding groups_of
  told-report-text e m em = rw (eq-eqb kind 5 e, em)

  pub told-other-text : (kind ≡ 5 → ⊥) → second_text 0 payload 0 0 ≡ told
  unfolding groups_of
  told-other-text e = rw (ne_eqb kind 5 e) (sym (each-one group_text (only payload)))

  pub told-other-size : (kind ≡ 5 → ⊥) → length (dec_text payload) + 7 ≡ length told
  told-other-size e =
      sym (ap length (sym (told-other-text e)) ∙ second-size 0 payload 0 0 ∙ omega (arith, one-long 0 (omega arith)))

-- ---- a Statement
module _ (s : Statement) (B : List ℕ) where
  abbrev start : List ℕ
  start = start_text s.kind s.origin (view_is s.at) (view_is s.view)

  abbrev groups : List ℕ
  groups = groups_text (groups_of s.kind s.groups s.payload B)

  abbrev views : List ℕ
  views = tail_text (first_views s.history.len s.history.views)

  -- the text in its five runs
  runs : text (stmt_of s B) ≡ start ++ (comma_number s.notice ++ (groups ++ (comma_number s.history.len ++ views)))
  unfolding stmt_of first_text
  runs =
      text-is (stmt_of s B) ∙ append_assoc start (comma_number s.notice) _
      ∙ ap (λ n. start ++ (comma_number s.notice ++ (groups ++ (comma_number n ++ views)))) (first-long s.history.len s.history.views)

  pub sizes : length (text (stmt_of s B)) ≡ length start + length (dec_text s.notice) + length groups + length (dec_text s.history.len) + 2 + 9 * s.history.len
  sizes =
      ap length runs
      ∙ omega (
        arith,
        length-append start (comma_number s.notice ++ (groups ++ (comma_number s.history.len ++ views))),
        length-append (dec_text s.notice) (groups ++ (comma_number s.history.len ++ views)),
        length-append groups (comma_number s.history.len ++ views),
        length-append (dec_text s.history.len) views,
        tail-long (first_views s.history.len s.history.views),
        first-long s.history.len s.history.views,
      )

  pub text-size : length (text (stmt_of s B)) ≡ length (dec_text s.kind) + length (dec_text s.origin) + length (dec_text s.notice) + length (dec_text s.history.len) + 21 + 9 * s.history.len + length groups
  text-size = omega (arith, sizes, first-size s.kind s.origin (view_is s.at) (view_is s.view))

  module _ (out : List ℕ) where
    pub too_many : 16 < s.history.len → (0 ≡ written_count s B out) × (out ≡ written s B out) × (0 ≤ 3120)
    unfolding written_count written is_writable
    too_many h = rw (lt-leb _ _ h) (refl, refl, omega arith)

    module _ (few : s.history.len ≤ 16) where
      pub too_short : leb (length (text (stmt_of s B))) (length out) ≡ false → (0 ≡ written_count s B out) × (out ≡ written s B out) × (0 ≤ 3120)
      unfolding written_count written is_writable
      too_short e = rw (le-leb _ _ few) (rw e (refl, refl, omega arith))

      pub wrote : (n : ℕ) (out' : List ℕ) → leb (length (text (stmt_of s B))) (length out) ≡ true → length (text (stmt_of s B)) ≤ 3120 → Wrote out 0 (text (stmt_of s B)) n out' → (n ≡ written_count s B out) × (out' ≡ written s B out) × (n ≤ 3120)
      unfolding written_count written is_writable
      wrote n out' e most w = rw (le-leb _ _ few) (rw e (w.next ∙ omega arith, w.is, omega (arith, w.next)))

  pub all_runs : {out out' : List ℕ} {n : ℕ} → Wrote out 0 (start ++ (comma_number s.notice ++ (groups ++ (comma_number s.history.len ++ views)))) n out' → Wrote out 0 (text (stmt_of s B)) n out'
  all_runs w = wrote_as (sym runs) w
