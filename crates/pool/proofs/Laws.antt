-- The views of a statement of the pool: as a list by index, whether a history has them all, and that each is one of the sixteen controllers.
-- Assumes nothing.
use mathlib.Core.Path.{◌≡◌, refl, sym, ap, ◌∙◌}
use mathlib.Core.Bool.{Bool, true, false, cond, ◌&&◌, and-false}
use mathlib.Core.List.{List, [], ◌∷◌, map}
use Prim.Native.Nat.{ℕ, ◌+◌, ◌≤◌, ◌<◌}
use native.Mathlib.Omega.{arith}
use lib.Dec.{eqb, leb}
use borrow.Author.Tests.{le-leb}
use Rattle.std.proofs.lemmas.List.{length-map}
use lib.ListN.{length, get_or}
use Rattle.protocol.specs.Lists.{any, all, list_of}
use Rattle.protocol.specs.View.{View, same_view, has_members}
use Rattle.protocol.specs.History.{holds, is_history}
use Rattle.protocol.specs.Statement.{is_rising, no_group, only, group_of, payload_of}
use Rattle.protocol.proofs.Bits.{Fits}
use Rattle.protocol.proofs.Numbered.{list_of-at}
use Rattle.views.specs.View.{view_of, view_in, ring_of_word}
use Rattle.views.proofs.Tables.{all-zero, all_more, all-miss}
use Rattle.views.proofs.Views.{fits_in}
use Rattle.pool.specs.Pool.{at_from, view_from, payload_from, word, view_word, count_of, view_at, group_count, told_at, groups_at, stmt_at}

-- the first c views of statement n are all, where it has c
pub views-of : (W : List ℕ) (n c : ℕ) → c ≡ count_of W n → list_of c (view_at W n) ≡ (stmt_at W n).views
unfolding stmt_at
views-of W n c e = ap (λ k. list_of k (view_at W n)) e

-- a fact of those c views is one of the statement's

module _ {A : Type 0} (g : List View → A) (W : List ℕ) (n : ℕ) where
  pub of-views : (c : ℕ) {r : A} → c ≡ count_of W n → r ≡ g (list_of c (view_at W n)) → r ≡ g (stmt_at W n).views
  of-views c e q = q ∙ ap g (views-of W n c e)

-- ---- a loop that asks whether each view of statement n is in H

module _ (H : List View) (W : List ℕ) (n : ℕ) where
  -- the views before p are
  abbrev pub HeldTo : ℕ → Type 0
  HeldTo p = all (λ v. any (same_view v) H) (list_of p (view_at W n)) ≡ true

  pub held_first : HeldTo 0
  held_first = all-zero _ _

  -- w is the word of view p
  module _ (p w : ℕ) {b : Bool} (is : view_of w ≡ view_at W n p) (asked : b ≡ any (same_view (view_of w)) H) where
    here : any (same_view (view_at W n p)) H ≡ b
    here = ap (λ v. any (same_view v) H) (sym is) ∙ sym asked

    pub held_next : HeldTo p → b ≡ true → HeldTo (p + 1)
    held_next h e = all_more _ _ _ h (here ∙ e)

    pub held-not : (c : ℕ) → c ≡ count_of W n → p < c → b ≡ false → false ≡ holds H (stmt_at W n).views
    unfolding holds
    held-not c q l e = of-views (holds H) W n c q (sym (all-miss _ _ _ l (here ∙ e)))

  pub held_all : (c : ℕ) → c ≡ count_of W n → HeldTo c → true ≡ holds H (stmt_at W n).views
  unfolding holds
  held_all c q h = of-views (holds H) W n c q (sym h)

-- ---- no statement of the pool has a kind above a byte or a view with other bits

module _ (W : List ℕ) (n : ℕ) where
  pub kind-small : (stmt_at W n).kind < 256
  unfolding stmt_at
  kind-small = omega arith

  pub origin-small : (stmt_at W n).origin < 256
  unfolding stmt_at
  origin-small = omega arith

  pub at-fits : Fits 16 (stmt_at W n).at
  unfolding stmt_at
  at-fits = fits_in (word W n at_from)

  pub view-fits : Fits 16 (stmt_at W n).view
  unfolding stmt_at
  view-fits = fits_in (word W n view_from)

  pub nth-fits : (p : ℕ) → Fits 16 (view_at W n p)
  nth-fits p = fits_in (view_word W n p)

-- ---- the groups of a statement of the pool

module _ (W : List ℕ) (n : ℕ) where
  -- a statement that is no report has the payload of its column
  pub plain-groups : eqb (stmt_at W n).kind 5 ≡ false → (stmt_at W n).groups ≡ only (word W n payload_from) ∷ []
  unfolding stmt_at groups_at
  plain-groups e = ap (λ b. cond b (list_of (group_count W n) (told_at W n)) (only (word W n payload_from) ∷ [])) e

  pub plain-payload : eqb (stmt_at W n).kind 5 ≡ false → payload_of (stmt_at W n) ≡ word W n payload_from
  plain-payload e = ap (λ l. (get_or l 0 no_group).payload) (plain-groups e)

  -- a report tells of each notice up to its count
  pub report-groups : eqb (stmt_at W n).kind 5 ≡ true → (stmt_at W n).groups ≡ list_of (group_count W n) (told_at W n)
  unfolding stmt_at groups_at
  report-groups e = ap (λ b. cond b (list_of (group_count W n) (told_at W n)) (only (word W n payload_from) ∷ [])) e

  pub report-group : (j : ℕ) → eqb (stmt_at W n).kind 5 ≡ true → j < group_count W n → group_of (stmt_at W n) j ≡ told_at W n j
  report-group j e l = ap (λ k. get_or k j no_group) (report-groups e) ∙ list_of-at (group_count W n) (told_at W n) j no_group l

-- ---- a history, by its tests

pub history-none : (init : ℕ) (ws : List ℕ) → length ws ≡ 0 → false ≡ is_history (ring_of_word init) (map view_in ws)
unfolding is_history
history-none init [] e = refl
history-none init (x ∷ ws) e = absurd (omega arith)

pub history-tests : (init : ℕ) (ws : List ℕ) → 0 < length ws → length ws ≤ 16
    → (same_view (view_in (get_or ws 0 0)) (view_of init) && (all (has_members 16) (map view_in ws) && is_rising 16 (map view_in ws))) ≡ is_history (ring_of_word init) (map view_in ws)
unfolding is_history
history-tests init [] l h = absurd (omega arith)
history-tests init (x ∷ ws) l h =
    shape (same_view (view_in x) (view_of init)) (all (has_members 16) (map view_in (x ∷ ws))) (is_rising 16 (map view_in (x ∷ ws))) (leb (length (map view_in (x ∷ ws))) 16)
    (le-leb (length (map view_in (x ∷ ws))) 16 (omega (arith, length-map (x ∷ ws) view_in)))
  where
    shape : (a s r m : Bool) → m ≡ true → (a && (s && r)) ≡ (((a && r) && m) && s)
    shape true true true m e = sym (ap (λ b. b && true) e)
    shape true true false m e = refl
    shape true false true m e = sym (and-false (true && m))
    shape true false false m e = refl
    shape false s r m e = refl
