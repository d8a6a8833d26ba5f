-- A run of views, each with a comma before it: the loops that read and write it.
-- Assumes nothing.
use Prim.Native.Nat.{ℕ, zero, suc, ◌+◌, ◌*◌, ◌<◌, ◌≤◌}
use native.Mathlib.Numerals.{add-one}
use native.Mathlib.Omega.{arith}
use mathlib.Core.Path.{◌≡◌, refl, sym, ap, subst, ◌∙◌}
use mathlib.Core.List.{List, [], ◌∷◌, ◌++◌}
use lib.ListN.{length, get_or, set, length-append}
use Rattle.protocol.specs.View.{View}
use Rattle.protocol.specs.Statement.{no_view}
use Rattle.std.specs.Prelude.{Option, Some, None, IfSome}
use Rattle.std.specs.Option.{option_map}
use Rattle.text.specs.Scan.{found, Stops}
use Rattle.text.specs.Written.{Wrote}
use Rattle.text.proofs.Stores.{both, wrote_as}
use Rattle.views.specs.declared.View as held
use Rattle.views.specs.declared.History.{History}
use Rattle.statements.specs.Text.{view_text}
use Rattle.views.specs.Held.{view_is}
use Rattle.statements.specs.Meaning.{first_views, first_of, Many, FitsView, FitsViews}
use Rattle.statements.specs.Parts.{NumberAt, ViewAt, each, comma_view, comma_number, tail_text, views_text, From, Ends}
use Rattle.statements.proofs.Fields.{view-long}
use Rattle.statements.proofs.Sequence.{Comma, from-number, from_view, two_text, TwoFit, SoFar, so-far-first, so-far-next, so-far-refused, so-far-all, ends-refused, ends-whole, ends_more, ends-none, ends-two, ends_as, each_more}

-- ---- lists of views
pub comma-view : Comma comma_view
comma-view v = (view_text v, refl)

pub tail-long : (l : List View) → length (tail_text l) ≡ 9 * length l
unfolding each
tail-long [] = refl
tail-long (v ∷ l) = omega (arith, length-append (view_text v) (tail_text l), view-long v, tail-long l)

pub tail-stops : (l : List View) → Stops (tail_text l)
unfolding each
tail-stops [] = tt
tail-stops (v ∷ l) = refl

pub first-none : (l : List held.View) → first_views 0 l ≡ []
unfolding first_views
first-none l = refl

pub first-long : (n : ℕ) (l : List held.View) → length (first_views n l) ≡ n
unfolding first_views
first-long zero l = refl
first-long (suc n) [] = ap suc (first-long n [])
first-long (suc n) (v ∷ l) = ap suc (first-long n l)

first-set : (l : List held.View) (i : ℕ) (v : held.View) → i < length l → first_views (suc i) (set l i v) ≡ first_views i l ++ (view_is v ∷ [])
unfolding first_views
first-set [] i v h = absurd (omega arith)
first-set (u ∷ l) zero v h = refl
first-set (u ∷ l) (suc i) v h = ap (λ (t : List View). view_is u ∷ t) (first-set l i v (omega arith))

-- ---- reading: i views were read
module _ (S : List ℕ) (n at₀ : ℕ) where
  abbrev pub ViewsSoFar : List View → ℕ → Type 0
  ViewsSoFar l at = SoFar comma_view FitsView S n at₀ l at

  pub views-first : (views : List held.View) → ViewsSoFar (first_views 0 views) at₀
  views-first views = subst (λ l. ViewsSoFar l at₀) (sym (first-none views)) (so-far-first comma_view FitsView S n at₀)

  module _ (views : List held.View) (i at : ℕ) (sf : ViewsSoFar (first_views i views) at) where
    pub views-next : (v : held.View) (next : ℕ) → i < n → i < length views → ViewAt S at (found v next) → ViewsSoFar (first_views (i + 1) (set views i v)) next
    views-next v next h size f =
        subst (λ l. ViewsSoFar l next) (sym (ap (λ k. first_views k (set views i v)) (add-one i) ∙ first-set views i v size))
        (so-far-next comma_view FitsView S n at₀ (first_views i views) at sf comma-view (view_is v) next (omega (arith, first-long i views)) (from_view S at (found v next) f))

    abbrev Whole : Option (List View) → Type 0
    Whole r = Ends tail_text (Many FitsView n) S at₀ r

    pub views-refused : i < n → ViewAt S at None → Whole None
    views-refused h f =
        ends-refused tail_text (Many FitsView n) S at₀ (so-far-refused comma_view FitsView S n at₀ (first_views i views) at sf comma-view (omega (arith, first-long i views)) (from_view S at None f))

    module _ (all : i ≡ n) where
      whole : From tail_text (Many FitsView n) S at₀ (found (first_views i views) at)
      whole = so-far-all comma_view FitsView S n at₀ (first_views i views) at sf (first-long i views ∙ all)

      pub views-more : at < length S → Whole None
      views-more h = ends_more tail_text (Many FitsView n) S at₀ (first_views i views) at whole h

      pub views-whole : length S ≤ at → Whole (Some (first_views n views))
      views-whole h = subst (λ k. Whole (Some (first_views k views))) all (ends-whole tail_text (Many FitsView n) S at₀ (first_views i views) at whole h)

-- with their count before them
module _ (S : List ℕ) (at : ℕ) where
  abbrev Low : ℕ → Type 0
  Low k = k ≤ 16

  counted : (r : Option (ℕ × List View)) → IfSome r (λ x. length x.1 ≡ x.0) → Ends (two_text comma_number Low tail_text (Many FitsView)) (TwoFit comma_number Low tail_text (Many FitsView)) S at r → Ends views_text FitsViews S at (option_map (λ x. x.1) r)
  counted r same e =
      ends_as (two_text comma_number Low tail_text (Many FitsView)) (TwoFit comma_number Low tail_text (Many FitsView)) views_text FitsViews (λ x. x.1) (λ w. (length w, w)) (λ w h. refl) (λ w h. (h.0, (refl, h.1))) (λ v w h q. ap (λ x. x.1) q) S at r
      (texts r same) e
    where
      texts : (r : Option (ℕ × List View)) → IfSome r (λ x. length x.1 ≡ x.0) → IfSome r (λ x. views_text x.1 ≡ two_text comma_number Low tail_text (Many FitsView) x)
      texts None same = tt
      texts (Some x) same = ap (λ k. comma_number k ++ tail_text x.1) same

  pub tail-refused : NumberAt S at 16 None → Ends views_text FitsViews S at None
  tail-refused c = counted None tt (ends-none comma_number Low tail_text (Many FitsView) S at tail-stops (from-number S at 16 None c))

  pub tail_from : (n next : ℕ) (r : Option History) → NumberAt S at 16 (found n next) → IfSome r (λ h. h.len ≡ n) → Ends tail_text (Many FitsView n) S next (option_map first_of r) → Ends views_text FitsViews S at (option_map first_of r)
  tail_from n next None c e f = counted None tt (ends-two comma_number Low tail_text (Many FitsView) S at n next (from-number S at 16 (found n next) c) tail-stops None f)
  tail_from n next (Some h) c e f =
      counted (Some (n, first_of h)) (first-long h.len h.views ∙ e) (ends-two comma_number Low tail_text (Many FitsView) S at n next (from-number S at 16 (found n next) c) tail-stops (Some (first_of h)) f)

-- ---- writing
pub put_first : (out : List ℕ) (from : ℕ) (l : List held.View) → Wrote out from (tail_text (first_views 0 l)) from out
unfolding first_views each
put_first out from l = record { next = omega arith; is = refl }

abbrev pub blank : held.View
blank = record { joined = 0; left = 0 }

-- the list need not be so long: past its end a view is empty on both sides
first_then_lem : (l : List held.View) (i : ℕ) → first_views (suc i) l ≡ first_views i l ++ (view_is (get_or l i blank) ∷ [])
unfolding first_views
first_then_lem [] zero = refl
first_then_lem [] (suc i) = ap (λ (t : List View). no_view ∷ t) (first_then_lem [] i)
first_then_lem (u ∷ l) zero = refl
first_then_lem (u ∷ l) (suc i) = ap (λ (t : List View). view_is u ∷ t) (first_then_lem l i)

-- one view more
pub tail_more : {out₀ out₁ out₂ : List ℕ} {from at n : ℕ} (k l : List View) (v : View) → l ≡ k ++ (v ∷ []) → Wrote out₀ from (tail_text k) at out₁ → Wrote out₁ at (44 ∷ view_text v) n out₂
    → Wrote out₀ from (tail_text l) n out₂
tail_more k l v e a b = wrote_as (sym (ap tail_text e ∙ each_more comma_view k v)) (both a b)

pub put_next : {out₀ out₁ out₂ : List ℕ} {from at n : ℕ} (i : ℕ) (l : List held.View) → Wrote out₀ from (tail_text (first_views i l)) at out₁ → Wrote out₁ at (44 ∷ view_text (view_is (get_or l i blank))) n out₂
    → Wrote out₀ from (tail_text (first_views (i + 1) l)) n out₂
put_next i l a b = tail_more (first_views i l) (first_views (i + 1) l) (view_is (get_or l i blank)) (ap (λ (k : ℕ). first_views k l) (add-one i) ∙ first_then_lem l i) a b
