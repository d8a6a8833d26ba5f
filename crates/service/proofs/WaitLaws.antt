-- What a controller waits for, line by line.
-- Assumes nothing.
use Rattle.std.specs.Prelude.{if◌then◌else◌}
use Prim.Native.Nat.{ℕ, zero, suc, ◌+◌, ◌*◌, ◌<◌}
use native.Mathlib.Omega.{arith}
use mathlib.Core.Path.{◌≡◌, refl, sym, ap, ap₂, ◌∙◌}
use mathlib.Core.Bool.{Bool, true, false, not, ◌&&◌}
use mathlib.Core.List.{List, [], ◌∷◌, ◌++◌, append_assoc, append-nil}
use lib.ListN.{length, get_or}
use Rattle.protocol.specs.Sets.{bit, set_of, one}
use Rattle.protocol.specs.Lists.{filter, list_of}
use Rattle.protocol.specs.View.{View, Ring, member, below}
use Rattle.protocol.specs.History.{top}
use Rattle.protocol.specs.Statement.{Stmt}
use Rattle.protocol.specs.Evidence.{signs, signed_by_quorum, is_counted_on, is_skipped}
use Rattle.protocol.specs.Signers.{signers, makes_quorum}
use Rattle.protocol.proofs.Count.{stops}
use Rattle.protocol.proofs.Signers.{who-signed}
use Rattle.views.specs.View.{view_of, ring_of_word, views_of}
use Rattle.text.specs.Written.{Wrote}
use Rattle.text.proofs.Stores.{both, wrote_as}
use Rattle.evidence.specs.declared.Evidence.{Evidence}
use Rattle.evidence.specs.Evidence.{Settled, remaining_views}
use Rattle.evidence.specs.Reports.{RemainingOf}
use Rattle.evidence.proofs.Listing.{filter-append, filter-one}
use Rattle.service.specs.Service.{window_word, nothing_word, reports_line, reports_lines, or_nothing}
use Rattle.service.specs.ServiceParts.{awaited_on, lacks_reports, lines_for, reports_held, waits_held}
use Rattle.service.proofs.ServiceLaws.{words_more}

-- ---- one view more

reports-more : (t : View) (awaited : View → ℕ) (k l : List View) → reports_lines t awaited (k ++ l) ≡ reports_lines t awaited k ++ reports_lines t awaited l
unfolding reports_lines
reports-more t awaited [] l = refl
reports-more t awaited (v ∷ k) l =
    ap (λ r. reports_line t v (awaited v) ++ r) (reports-more t awaited k l) ∙ sym (append_assoc (reports_line t v (awaited v)) (reports_lines t awaited k) (reports_lines t awaited l))

module _ (R : Ring) (senders : List ℕ) (X : List Stmt) (t : View) where
  -- the line of u, if it lacks reports
  line_of : View → Bool → List ℕ
  line_of u lacks = if lacks then reports_line t u (awaited_on R senders X u) else []

  one_line : (u : View) (b : Bool) → b ≡ lacks_reports R senders X u → lines_for R senders X t (u ∷ []) ≡ line_of u b
  unfolding lines_for reports_lines line_of
  one_line u true e = ap (reports_lines t (awaited_on R senders X)) (filter-one (lacks_reports R senders X) u true e) ∙ append-nil (reports_line t u (awaited_on R senders X u))
  one_line u false e = ap (reports_lines t (awaited_on R senders X)) (filter-one (lacks_reports R senders X) u false e)

  more-lines : (ws : List ℕ) (i : ℕ) (u : View) (b : Bool) → u ≡ view_of (get_or ws i 0) → b ≡ lacks_reports R senders X u → lines_for R senders X t (views_of ws (i + 1)) ≡ lines_for R senders X t (views_of ws i) ++ line_of u b
  unfolding lines_for
  more-lines ws i u b f e =
      ap (λ l. reports_lines t (awaited_on R senders X) (filter (lacks_reports R senders X) l)) (words_more ws i ∙ ap (λ u. views_of ws i ++ (u ∷ [])) (sym f))
      ∙ ap (reports_lines t (awaited_on R senders X)) (filter-append (lacks_reports R senders X) (views_of ws i) (u ∷ []))
      ∙ reports-more t (awaited_on R senders X) (filter (lacks_reports R senders X) (views_of ws i)) (filter (lacks_reports R senders X) (u ∷ []))
      ∙ ap (λ r. lines_for R senders X t (views_of ws i) ++ r) (one_line u b e)

  module _ (ws : List ℕ) where
    pub lines-first : (out : List ℕ) (from : ℕ) → Wrote out from (lines_for R senders X t (views_of ws 0)) from out
    unfolding lines_for views_of list_of filter reports_lines
    lines-first out from = record { next = omega arith; is = refl }

    module _ {out₀ out₁ : List ℕ} {from at : ℕ} (i w : ℕ) (here : w ≡ get_or ws i 0) (done : Wrote out₀ from (lines_for R senders X t (views_of ws i)) at out₁) where
      pub lines-skip : false ≡ lacks_reports R senders X (view_of w) → Wrote out₀ from (lines_for R senders X t (views_of ws (i + 1))) at out₁
      unfolding line_of
      lines-skip e = wrote_as (sym (more-lines ws i (view_of w) false (ap view_of here) e ∙ append-nil (lines_for R senders X t (views_of ws i)))) done

      pub lines_next : {out₂ : List ℕ} {n : ℕ} (a : ℕ) → true ≡ lacks_reports R senders X (view_of w) → a ≡ awaited_on R senders X (view_of w)
          → Wrote out₁ at (reports_line t (view_of w) a) n out₂ → Wrote out₀ from (lines_for R senders X t (views_of ws (i + 1))) n out₂
      unfolding line_of
      lines_next a e f b = wrote_as (sym (more-lines ws i (view_of w) true (ap view_of here) e)) (both done (wrote_as (ap (reports_line t (view_of w)) f) b))

    pub lines-all : {out₀ out₁ : List ℕ} {from at : ℕ} (i n : ℕ) → i ≡ n → Wrote out₀ from (lines_for R senders X t (views_of ws i)) at out₁ → Wrote out₀ from (lines_for R senders X t (views_of ws n)) at out₁
    lines-all i n e w = wrote_as (ap (λ i. lines_for R senders X t (views_of ws i)) e) w

-- ---- who reported

set_of-same : (n : ℕ) (p q : ℕ → Bool) → ((k : ℕ) → k < n → p k ≡ q k) → set_of n p ≡ set_of n q
unfolding set_of
set_of-same zero p q h = refl
set_of-same (suc n) p q h = ap₂ (λ b s. one b + 2 * s) (h 0 (omega arith)) (set_of-same n (λ k. p (suc k)) (λ k. q (suc k)) (λ k l. h (suc k) (omega arith)))

without : (m s : Bool) → (m && not (m && s)) ≡ (m && not s)
without true s = refl
without false s = refl

module _ (init : ℕ) (senders : List ℕ) (X : List Stmt) (u : View) (who : ℕ) (is : who ≡ signers 16 X u (is_counted_on (ring_of_word init) senders X u)) where
  quorum-says : (r : Bool) → r ≡ makes_quorum 16 u who → r ≡ signed_by_quorum 16 X u (is_counted_on (ring_of_word init) senders X u)
  quorum-says r e =
      e ∙ ap (makes_quorum 16 u) is ∙ sym (who-signed 16 X u (is_counted_on (ring_of_word init) senders X u)).yes
      ∙ (stops 16 u (is_counted_on (ring_of_word init) senders X u) X).says

  pub lacks-none : (r : Bool) → r ≡ makes_quorum 16 u who → r ≡ true → false ≡ lacks_reports (ring_of_word init) senders X u
  unfolding lacks_reports
  lacks-none r e f = ap not (sym f ∙ quorum-says r e)

  pub lacks-some : (r : Bool) → r ≡ makes_quorum 16 u who → r ≡ false → true ≡ lacks_reports (ring_of_word init) senders X u
  unfolding lacks_reports
  lacks-some r e f = ap not (sym f ∙ quorum-says r e)

  pub awaited-is : (a : ℕ) → a ≡ set_of 16 (λ k. member u k && not (bit who k)) → a ≡ awaited_on (ring_of_word init) senders X u
  unfolding awaited_on
  awaited-is a e =
      e ∙ set_of-same 16 (λ k. member u k && not (bit who k)) (λ k. member u k && not (signs (is_counted_on (ring_of_word init) senders X u) X k)) (λ k l.
      ap (λ b. member u k && not b) (ap (λ a. bit a k) is ∙ (who-signed 16 X u (is_counted_on (ring_of_word init) senders X u)).each k l)
      ∙ without (member u k) (signs (is_counted_on (ring_of_word init) senders X u) X k))

-- ---- the views that need reports

module _ (init : ℕ) (senders : List ℕ) (X : List Stmt) (t : View) (k : ℕ) (entered r : Bool) (asked : r ≡ member t k) where
  abbrev R : Ring
  R = ring_of_word init

  held_by : (a b : Bool) → r ≡ a → entered ≡ b → (if a && not b then lines_for R senders X t (remaining_views R senders X) else []) ≡ reports_held R senders X t k entered
  unfolding reports_held
  held_by a b e f = ap₂ (λ a b. if a && not b then lines_for R senders X t (remaining_views R senders X) else []) (sym e ∙ asked) (sym f)

  stays : (out : List ℕ) (at : ℕ) → [] ≡ reports_held R senders X t k entered → Wrote out at (reports_held R senders X t k entered) at out
  stays out at e = wrote_as e (record { next = omega arith; is = refl })

  pub reports-outside : (out : List ℕ) (at : ℕ) → r ≡ false → Wrote out at (reports_held R senders X t k entered) at out
  reports-outside out at e = stays out at (held_by false entered e refl)

  pub reports-entered : (out : List ℕ) (at : ℕ) → r ≡ true → entered ≡ true → Wrote out at (reports_held R senders X t k entered) at out
  reports-entered out at e f = stays out at (held_by true true e f)

  module _ (C G P : List ℕ) (e : Evidence) (settled : Settled R senders X C G P e) (L : List ℕ) (n : ℕ) (needed : RemainingOf R G e.length e.skipped L n) where
    remaining-is : views_of L n ≡ remaining_views R senders X
    unfolding remaining_views
    remaining-is =
        needed.are (is_skipped R X) (settled.of.skipped settled.agree) ∙ ap (λ G. filter (λ u. below 16 u (top R G) && not (is_skipped R X u)) G) (settled.of.greatest settled.agree)

    pub reports-wrote : {out₀ out₁ : List ℕ} {at b : ℕ} (w : ℕ) → view_of w ≡ t → r ≡ true → entered ≡ false → Wrote out₀ at (lines_for R senders X (view_of w) (views_of L n)) b out₁
        → Wrote out₀ at (reports_held R senders X t k entered) b out₁
    reports-wrote w f g h x = wrote_as (ap₂ (lines_for R senders X) f remaining-is ∙ held_by true false g h) x

-- ---- the lines, or that there is none

some-window : (l : List ℕ) → l ++ window_word ≡ or_nothing (l ++ window_word)
unfolding or_nothing
some-window [] = refl
some-window (x ∷ l) = refl

some-lines : (l : List ℕ) → (length l ≡ 0 → ⊥) → l ≡ or_nothing (l ++ [])
unfolding or_nothing
some-lines [] d = absurd (d refl)
some-lines (x ∷ l) d = sym (append-nil (x ∷ l))

no_lines : (l : List ℕ) → length l ≡ 0 → l ≡ []
no_lines [] e = refl
no_lines (x ∷ l) e = absurd (omega arith)

module _ {out₀ out₁ : List ℕ} {at a : ℕ} (reports : List ℕ) (w : Wrote out₀ at reports a out₁) (window : Bool) where
  pub waits-window : {out₂ : List ℕ} {b : ℕ} → window ≡ true → Wrote out₁ a window_word b out₂ → Wrote out₀ at (waits_held reports window) b out₂
  unfolding waits_held
  waits-window e x = rw e (wrote_as (some-window reports) (both w x))

  pub waits-lines : window ≡ false → (a ≡ at → ⊥) → Wrote out₀ at (waits_held reports window) a out₁
  unfolding waits_held
  waits-lines e d = rw e (wrote_as (some-lines reports (λ z. d (omega (arith, w.next)))) w)

  pub waits-nothing : {out₂ : List ℕ} {b : ℕ} → window ≡ false → a ≡ at → Wrote out₁ a nothing_word b out₂ → Wrote out₀ at (waits_held reports window) b out₂
  unfolding waits_held or_nothing
  waits-nothing e d x = rw e (wrote_as (sym (ap (λ l. or_nothing (l ++ [])) empty)) (both (wrote_as empty w) x))
    where
      empty : reports ≡ []
      empty = no_lines reports (omega (arith, w.next))
