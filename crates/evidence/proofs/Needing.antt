-- Laws of a loop that lists the views that need reports: every view is written, and stays only if it does.
-- Assumes nothing.
use Rattle.std.specs.Prelude.{if◌then◌else◌}
use mathlib.Core.Path.{◌≡◌, refl, sym, ap, ap₂, ◌∙◌}
use mathlib.Core.Bool.{Bool, true, false, not, ◌&&◌}
use mathlib.Core.List.{List, [], ◌∷◌, ◌++◌, append-nil}
use Prim.Native.Nat.{ℕ, ◌+◌, ◌≤◌, ◌<◌}
use native.Mathlib.Numerals.{add-one}
use native.Mathlib.Omega.{arith}
use mir.Val.{bool_byte}
use lib.ListN.{length, get_or, set, length-set}
use lib.Seq.{get_or-set_other}
use Rattle.protocol.specs.Sets.{bit}
use Rattle.protocol.specs.Lists.{filter, list_of}
use Rattle.protocol.specs.View.{View, Ring, below}
use Rattle.protocol.specs.History.{top}
use Rattle.protocol.proofs.Numbered.{list_of-cong}
use Rattle.views.specs.View.{view_of, views_of}
use Rattle.ranking.proofs.Slots.{views-put}
use Rattle.evidence.specs.Reports.{RemainingOf}
use Rattle.evidence.proofs.Listing.{filter-append, filter-one, byte_one}

-- ---- the loop

-- the first m words of L are those of the first i of G that need reports, where p tells the skipped
pub record NeededTo (t : View) (skipped : ℕ) (G L : List ℕ) (i m : ℕ) : Type 0 where
  pub long : length L ≡ 16
  pub most : m ≤ i
  pub are : (p : View → Bool) → ((j : ℕ) → j < i → bit skipped j ≡ p (view_of (get_or G j 0))) → views_of L m ≡ filter (λ u. below 16 u t && not (p u)) (views_of G i)

pub needed-first : (t : View) (skipped : ℕ) (G L : List ℕ) → length L ≡ 16 → NeededTo t skipped G L 0 0
unfolding views_of list_of filter
needed-first t skipped G L e = record { long = e; most = omega arith; are = λ p h. refl }

module _ (t : View) (skipped : ℕ) (G L : List ℕ) (i m u : ℕ) (l : i < 16) (is : u ≡ get_or G i 0) (g : NeededTo t skipped G L i m) where
  -- the view at i stays or not
  stays : (b : Bool) → views_of (set L m u) (m + bool_byte b) ≡ views_of L m ++ (if b then view_of u ∷ [] else [])
  unfolding views_of
  stays true = rw add-one (views-put L m u (omega (arith, g.long, g.most)))
  stays false =
      let e : m + 0 ≡ m = omega arith in
      ap (views_of (set L m u)) e ∙ list_of-cong m (λ k. view_of (get_or (set L m u) k 0)) (λ k. view_of (get_or L k 0)) (λ k h. ap view_of (get_or-set_other L m k u 0 (λ q. omega arith)))
      ∙ sym (append-nil (views_of L m))

  pub needed-next : (b : Bool) → b ≡ (below 16 (view_of u) t && not (bit skipped i)) → NeededTo t skipped G (set L m u) (i + 1) (m + bool_byte b)
  unfolding views_of list_of
  needed-next b e = record {
    long = length-set L m u ∙ g.long;
    most = omega (arith, g.most, byte_one b);
    are = λ p h.
        let test : View → Bool = λ u. below 16 u t && not (p u) in
        let f : b ≡ test (view_of u) = e ∙ ap (λ b. below 16 (view_of u) t && not b) (h i (omega arith) ∙ ap (λ w. p (view_of w)) (sym is)) in
        rw add-one (
        stays b ∙ ap₂ ◌++◌ (g.are p (λ j k. h j (omega arith))) (sym (filter-one test (view_of u) b f)) ∙ sym (filter-append test (views_of G i) (view_of u ∷ []))
        ∙ ap (λ w. filter test (views_of G i ++ (view_of w ∷ []))) is);
  }

pub needed-all : (R : Ring) (G L : List ℕ) (t : View) (i n skipped m : ℕ) → i ≡ n → n ≤ 16 → t ≡ top R (views_of G n) → NeededTo t skipped G L i m → RemainingOf R G n skipped L m
needed-all R G L t i n skipped m at short topped g = record {
  most = omega (arith, g.most);
  are = λ p h. g.are p (λ j k. h j (omega arith)) ∙ ap₂ (λ t k. filter (λ u. below 16 u t && not (p u)) (views_of G k)) topped at;
}
