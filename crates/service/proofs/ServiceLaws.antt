-- The text of the service screen: its parts in runs, and how they are written one after the other.
-- Assumes nothing.
use Rattle.std.specs.Prelude.{if◌then◌else◌, Option, Some, None}
use Prim.Native.Nat.{ℕ, zero, suc, ◌+◌, ◌-◌, ◌<◌, ◌≤◌, min}
use native.Mathlib.Omega.{arith}
use native.Mathlib.Numerals.{add-one}
use mathlib.Core.Path.{◌≡◌, refl, sym, ap, ap₂, ◌∙◌}
use mathlib.Core.Bool.{Bool, true, false}
use mathlib.Core.List.{List, [], ◌∷◌, ◌++◌, append_assoc, append-nil}
use lib.ListN.{length, get_or}
use Rattle.protocol.specs.Sets.{bit, set_of}
use Rattle.protocol.specs.Lists.{list_of}
use Rattle.protocol.specs.View.{View, member}
use Rattle.protocol.specs.History.{last}
use Rattle.protocol.specs.Statement.{Binding}
use Rattle.protocol.proofs.Bits.{bit-set_of}
use Rattle.text.specs.Text.{dec_text}
use Rattle.text.specs.Written.{Wrote}
use Rattle.text.proofs.Decimal.{long-below}
use Rattle.text.proofs.Stores.{both, wrote_as}
use Rattle.views.specs.View.{view_of, view_in, views_of}
use Rattle.views.specs.Held.{held_at, views_is}
use Rattle.views.specs.declared.History.{History}
use Rattle.views.proofs.Held.{views-of}
use Rattle.views.proofs.Views.{view_in_lem, member-masked}
use Rattle.statements.specs.Text.{view_text}
use Rattle.service.specs.Service.{outside_word, entered_word, notice_word, next_word, certificate_word, acked_word, numbers_below, numbers_text, set_text, members_text, views_text, entered_line, binding_text, notice_line, stored_text, certificate_text}
use Rattle.service.specs.ServiceParts.{start_text, end_text, acked_text, stored_by, certificate_by}

-- ---- how long numbers are

pub controller-most : (k : ℕ) → k < 16 → length (dec_text k) ≤ 2
controller-most k h = long-below 1 k (omega arith)

pub notice-most : (i : ℕ) → i < 64 → length (dec_text i) ≤ 2
notice-most i h = long-below 1 i (omega arith)

pub byte-most : (k : ℕ) → k < 256 → length (dec_text k) ≤ 3
byte-most k h = long-below 2 k (omega arith)

-- ---- the controllers of a set, one after the other

module _ (p : ℕ → Bool) where
  pub numbers-first : (out : List ℕ) (from : ℕ) → Wrote out from (numbers_below 0 p) from out
  unfolding numbers_below
  numbers-first out from = record { next = omega arith; is = refl }

  numbers_more : (k : ℕ) → numbers_below (k + 1) p ≡ numbers_below k p ++ (if p k then 32 ∷ dec_text k else [])
  unfolding numbers_below
  numbers_more k = rw add-one

  module _ {out₀ out₁ : List ℕ} {from at : ℕ} (k : ℕ) (w : Wrote out₀ from (numbers_below k p) at out₁) (r : Bool) (asked : r ≡ p k) where
    pub numbers-skip : r ≡ false → Wrote out₀ from (numbers_below (k + 1) p) at out₁
    numbers-skip f = wrote_as (sym (numbers_more k ∙ ap (λ b. numbers_below k p ++ (if b then 32 ∷ dec_text k else [])) (sym asked ∙ f) ∙ append-nil (numbers_below k p))) w

    pub numbers-next : {out₂ : List ℕ} {n : ℕ} → r ≡ true → Wrote out₁ at (32 ∷ dec_text k) n out₂ → Wrote out₀ from (numbers_below (k + 1) p) n out₂
    numbers-next f x = wrote_as (sym (numbers_more k ∙ ap (λ b. numbers_below k p ++ (if b then 32 ∷ dec_text k else [])) (sym asked ∙ f))) (both w x)

  pub numbers-all : {out₀ out₁ : List ℕ} {from at : ℕ} (k n : ℕ) → k ≡ n → Wrote out₀ from (numbers_below k p) at out₁ → Wrote out₀ from (numbers_below n p) at out₁
  numbers-all k n e w = wrote_as (ap (λ k. numbers_below k p) e) w

numbers-same : (n : ℕ) (p q : ℕ → Bool) → ((k : ℕ) → k < n → p k ≡ q k) → numbers_below n p ≡ numbers_below n q
unfolding numbers_below
numbers-same zero p q h = refl
numbers-same (suc n) p q h = ap₂ ◌++◌ (numbers-same n p q (λ k l. h k (omega arith))) (ap (λ b. if b then 32 ∷ dec_text n else []) (h n (omega arith)))

-- the members of the view of a word
pub members-numbers : (a w : ℕ) (v : View) → a ≡ set_of 16 (member v) → v ≡ view_in w → numbers_text (bit a) ≡ numbers_text (member (view_of w))
unfolding numbers_text
members-numbers a w v e f = ap (λ t. 58 ∷ t) (numbers-same 16 (bit a) (member (view_of w)) each)
  where
    each : (k : ℕ) → k < 16 → bit a k ≡ member (view_of w) k
    each k l = ap (λ a. bit a k) e ∙ bit-set_of 16 (member v) k l ∙ ap (λ v. member v k) (f ∙ view_in_lem w) ∙ member-masked (view_of w) k l

-- ---- views, one after the other

views-more : (l : List View) (v : View) → views_text (l ++ (v ∷ [])) ≡ views_text l ++ (32 ∷ view_text v)
unfolding views_text
views-more [] v = append-nil (32 ∷ view_text v)
views-more (u ∷ l) v = ap (λ t. (32 ∷ view_text u) ++ t) (views-more l v) ∙ sym (append_assoc (32 ∷ view_text u) (views_text l) (32 ∷ view_text v))

-- one view more of some words
pub words_more : (ws : List ℕ) (i : ℕ) → views_of ws (i + 1) ≡ views_of ws i ++ (view_of (get_or ws i 0) ∷ [])
unfolding views_of list_of
words_more ws i = rw (add-one i)

module _ (ws : List ℕ) where
  pub views-first : (out : List ℕ) (from : ℕ) → Wrote out from (views_text (views_of ws 0)) from out
  unfolding views_text views_of list_of
  views-first out from = record { next = omega arith; is = refl }

  pub views-next : {out₀ out₁ out₂ : List ℕ} {from at n : ℕ} (i w : ℕ) → w ≡ get_or ws i 0 → Wrote out₀ from (views_text (views_of ws i)) at out₁
      → Wrote out₁ at (32 ∷ view_text (view_of w)) n out₂ → Wrote out₀ from (views_text (views_of ws (i + 1))) n out₂
  views-next i w e a b =
      wrote_as (sym (ap views_text (words_more ws i) ∙ views-more (views_of ws i) (view_of (get_or ws i 0)))) (both a (wrote_as (ap (λ w. 32 ∷ view_text (view_of w)) e) b))

  pub views-all : {out₀ out₁ : List ℕ} {from at : ℕ} (i n : ℕ) → i ≡ n → Wrote out₀ from (views_text (views_of ws i)) at out₁ → Wrote out₀ from (views_text (views_of ws n)) at out₁
  views-all i n e w = wrote_as (ap (λ i. views_text (views_of ws i)) e) w

-- ---- the view that was entered last

last_of : (u v : View) (l : List View) → last u (l ++ (v ∷ [])) ≡ v
unfolding last
last_of u v [] = refl
last_of u v (w ∷ l) = last_of w v l

entered-last : (l : List View) (v : View) → entered_line (l ++ (v ∷ [])) ≡ entered_word ++ (members_text v ++ (10 ∷ []))
unfolding entered_line last
entered-last [] v = refl
entered-last (u ∷ l) v = ap (λ v. entered_word ++ (members_text v ++ (10 ∷ []))) (last_of u v l)

listed-last : {A : Type 0} (f : ℕ → A) (n : ℕ) → 0 < n → list_of n f ≡ list_of (n - 1) f ++ (f (n - 1) ∷ [])
unfolding list_of
listed-last f zero h = absurd (omega arith)
listed-last f (suc n) h = let e : suc n - 1 ≡ n = omega arith in rw e

pub entered-line : (h : History) (n : ℕ) (w : ℕ) → n ≡ min h.len 16 → (n ≡ 0 → ⊥) → view_of w ≡ held_at h.views (n - 1) → entered_word ++ (members_text (view_of w) ++ (10 ∷ [])) ≡ entered_line (views_is h)
entered-line h n w e d f =
    sym (entered-last (list_of (n - 1) (held_at h.views)) (view_of w))
    ∙ ap (λ v. entered_line (list_of (n - 1) (held_at h.views) ++ (v ∷ []))) f ∙ ap entered_line (sym (listed-last (held_at h.views) n (omega arith)) ∙ views-of h n e)

pub entered-none : (h : History) (n : ℕ) → n ≡ min h.len 16 → n ≡ 0 → outside_word ≡ entered_line (views_is h)
unfolding entered_line list_of
entered-none h n e f = ap entered_line (ap (λ k. list_of k (held_at h.views)) (sym f) ∙ views-of h n e)

-- ---- the line of a notice in runs

regroup-six : (a b c d e f g : List ℕ) → (a ++ (b ++ (c ++ d))) ++ (e ++ (f ++ g)) ≡ (a ++ (b ++ (c ++ (d ++ (e ++ f))))) ++ g
regroup-six a b c d e f g = simp append_assoc

regroup-five : (a b c d e f : List ℕ) → (a ++ (b ++ (c ++ (d ++ e)))) ++ f ≡ a ++ (b ++ (c ++ (d ++ (e ++ f))))
regroup-five a b c d e f = simp append_assoc

certificate_runs : (m acked : ℕ) (is : Bool) (by : ℕ) → acked_text m acked ++ (next_word ++ (stored_text is by ++ next_word)) ≡ certificate_text m acked is by ++ next_word
unfolding certificate_text acked_text
certificate_runs m acked is by = regroup-six certificate_word (dec_text m) acked_word (set_text acked) next_word (stored_text is by) next_word

pub certificate-runs : (m acked : ℕ) (by : Option ℕ) → acked_text m acked ++ (next_word ++ (stored_by by ++ next_word)) ≡ certificate_by m acked by ++ next_word
certificate-runs m acked (Some a) = certificate_runs m acked true a
certificate-runs m acked None = certificate_runs m acked false 0

pub line-runs : (i : ℕ) (b : Binding) (middle : List ℕ) (is : Bool) → start_text i b ++ (middle ++ end_text is) ≡ notice_line i b middle is
unfolding notice_line start_text end_text
line-runs i b middle is =
    regroup-five notice_word (dec_text i) (58 ∷ 32 ∷ []) (binding_text b) next_word (middle ++ end_text is)
