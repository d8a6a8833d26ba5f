-- The front of a list, as a loop over `&list[..n]` or a chain of its iterator reads it.
-- Assumes nothing.
use Rattle.std.specs.List.{list_any}
use mathlib.Core.Path.{◌≡◌, refl, sym, ap, ap₂, ◌∙◌}
use mathlib.Core.Bool.{Bool, ◌||◌}
use mathlib.Core.List.{List}
use Prim.Native.Nat.{ℕ, zero, suc, ◌^◌, ◌≤◌, ◌<◌}
use native.Mathlib.Decide.{ℕ_discrete}
use native.Mathlib.Omega.{arith}
use lib.Dec.{eqb}
use lib.ListN.{length, get_or, take}
use borrow.Author.Tests.{eq-eqb, ne_eqb}
use Rattle.std.proofs.lemmas.List.{length-take, get_or-take}
use Rattle.protocol.specs.Lists.{any, list_of}
use Rattle.protocol.specs.View.{View, same_view}
use Rattle.protocol.proofs.Numbered.{list_of-cong}
use Rattle.protocol.specs.Statement.{Stmt}
use Rattle.views.specs.View.{view_of, views_of}
use Rattle.views.proofs.Chains.{any-take}
use Rattle.views.proofs.Tables.{any-suc}
use Rattle.views.proofs.Views.{view-inj, same-yes, same-no}
use Rattle.pool.specs.Pool.{stmt_at, record_len, record_in, record_up_to}

module _ (n i : ℕ) (l : List ℕ) where
  pub below-taken : i < length (take n l) → i < n
  below-taken h = omega (arith, length-take n l)

  pub at-taken : i < length (take n l) → get_or (take n l) i 0 ≡ get_or l i 0
  at-taken h = get_or-take n l i 0 (below-taken h)

  pub end-taken : n ≤ length l → i ≤ length (take n l) → length (take n l) ≤ i → i ≡ n
  end-taken h a b = omega (arith, length-take n l)

-- ---- what a chain over it says

-- the statements of a record, of which end count
pub any-record : (p : Stmt → Bool) (W ids : List ℕ) (end : ℕ) → end ≡ record_len ids → end ≤ length ids → list_any (λ s. p (stmt_at W s)) (take end ids) ≡ any p (record_in W ids)
unfolding record_up_to
any-record p W ids end e h = any-take p (stmt_at W) end ids 0 h ∙ ap (λ n. any p (list_of n (λ i. stmt_at W (get_or ids i 0)))) e

any-by : (p : ℕ → Bool) (q : View → Bool) (f : ℕ → ℕ) (g : ℕ → View) (n : ℕ) → ((i : ℕ) → p (f i) ≡ q (g i)) → any p (list_of n f) ≡ any q (list_of n g)
unfolding list_of any
any-by p q f g zero h = refl
any-by p q f g (suc n) h = any-suc p f n ∙ ap₂ ◌||◌ (any-by p q f g n h) (h n) ∙ sym (any-suc q g n)

-- the word v among the first n words of a list
pub in-words : (v n : ℕ) (l : List ℕ) → n ≤ length l → v < 2 ^ 64 → ((i : ℕ) → get_or l i 0 < 2 ^ 64) → list_any (λ y. eqb y v) (take n l) ≡ any (same_view (view_of v)) (views_of l n)
unfolding views_of
in-words v n l h small fits =
    any-take (λ y. eqb y v) (λ y. y) n l 0 h ∙ any-by (λ y. eqb y v) (same_view (view_of v)) (λ i. get_or l i 0) (λ i. view_of (get_or l i 0)) n each
  where
    each : (i : ℕ) → eqb (get_or l i 0) v ≡ same_view (view_of v) (view_of (get_or l i 0))
    each i = elim (ℕ_discrete (get_or l i 0) v) [
      | yes e ↦ eq-eqb (get_or l i 0) v e ∙ sym (same-yes _ _ (ap view_of (sym e)))
      | no d ↦ ne_eqb (get_or l i 0) v d ∙ sym (same-no _ _ (λ q. d (sym (view-inj _ _ small (fits i) q))))
    ]

-- the views of the first n words, where the list ends after them
pub views-taken : (n : ℕ) (l : List ℕ) → views_of (take n l) n ≡ views_of l n
unfolding views_of
views-taken n l = list_of-cong n (λ i. view_of (get_or (take n l) i 0)) (λ i. view_of (get_or l i 0)) (λ i h. ap view_of (get_or-take n l i 0 h))
