-- The lines of the notices, one after the other, from the evidence as it is held.
-- Assumes nothing.
use Rattle.std.specs.Prelude.{if◌then◌else◌}
use Prim.Native.Nat.{ℕ, zero, suc, ◌+◌, ◌<◌}
use native.Mathlib.Omega.{arith}
use native.Mathlib.Numerals.{add-one}
use mathlib.Core.Path.{◌≡◌, refl, sym, ap, ap₂, ◌∙◌}
use mathlib.Core.Bool.{Bool, true, false}
use mathlib.Core.List.{List, [], ◌++◌}
use lib.ListN.{get_or}
use Rattle.protocol.specs.Sets.{bit}
use Rattle.protocol.specs.Lists.{when}
use Rattle.protocol.specs.Statement.{Stmt, acks}
use Rattle.protocol.specs.Signers.{set_behind, store_set}
use Rattle.views.specs.View.{ring_of_word}
use Rattle.text.specs.Written.{Wrote}
use Rattle.text.proofs.Stores.{both, wrote_as}
use Rattle.statements.specs.declared.Binding.TheVariants.{Unbound}
use Rattle.statements.specs.Block.{binding_is}
use Rattle.evidence.specs.declared.Evidence.{Evidence}
use Rattle.evidence.specs.declared.Notice.{Notice}
use Rattle.evidence.specs.Evidence.{certificate_at}
use Rattle.evidence.specs.Notices.{binding_held}
use Rattle.service.specs.Service.{uncertified_word, next_word, stored_text, certificate_text, notice_line, lines_below}
use Rattle.service.specs.ServiceParts.{certified_text, held_text, held_line}

-- ---- what is told of notice i

module _ (init : ℕ) (X : List Stmt) (e : Evidence) (P : List ℕ) (i : ℕ) where
  pub held-conflict : (out : List ℕ) (at : ℕ) → e.conflict ≡ true → Wrote out at (held_text init X e P i) at out
  unfolding held_text
  held-conflict out at f = rw f record { next = omega arith; is = refl }

  module _ (agree : e.conflict ≡ false) (r : Bool) (asked : r ≡ bit e.certified i) where
    held_by : (b : Bool) → r ≡ b → certified_text init X e P i (when b (get_or P i 0)) ≡ held_text init X e P i
    unfolding held_text
    held_by b f = sym (ap (λ c. if c then [] else certified_text init X e P i (certificate_at e P i)) agree ∙ ap (λ b. certified_text init X e P i (when b (get_or P i 0))) (sym asked ∙ f))

    pub held_none : r ≡ false → uncertified_word ++ next_word ≡ held_text init X e P i
    unfolding certified_text
    held_none f = held_by false f

    module _ (m a : ℕ) (has : r ≡ true) (payload : m ≡ get_or P i 0) (acked : a ≡ set_behind (ring_of_word init) X (λ t. acks t i m)) (k : Bool) (told : k ≡ bit e.stored i) where
      held-some : (b : Bool) (by : ℕ) → k ≡ b → by ≡ store_set (ring_of_word init) X i m → certificate_text m a b by ++ next_word ≡ held_text init X e P i
      unfolding certified_text
      held-some b by f g =
          ap₂ (λ a by. certificate_text m a b by ++ next_word) acked g
          ∙ ap₂ (λ m b. certificate_text m (set_behind (ring_of_word init) X (λ t. acks t i m)) b (store_set (ring_of_word init) X i m) ++ next_word) payload (sym f ∙ told) ∙ held_by true has

      pub held-stored : (by : ℕ) → k ≡ true → by ≡ store_set (ring_of_word init) X i m → certificate_text m a true by ++ next_word ≡ held_text init X e P i
      held-stored by f g = held-some true by f g

      -- who stored it is not told
      pub held-unstored : k ≡ false → certificate_text m a false 0 ++ next_word ≡ held_text init X e P i
      unfolding certificate_text stored_text
      held-unstored f = held-some false (store_set (ring_of_word init) X i m) f refl

-- ---- one line after the other

module _ (line : ℕ → List ℕ) where
  pub lines-first : (out : List ℕ) (from : ℕ) → Wrote out from (lines_below 0 line) from out
  unfolding lines_below
  lines-first out from = record { next = omega arith; is = refl }

  pub lines_next : {out₀ out₁ out₂ : List ℕ} {from at n : ℕ} (j : ℕ) → Wrote out₀ from (lines_below j line) at out₁ → Wrote out₁ at (line j) n out₂ → Wrote out₀ from (lines_below (j + 1) line) n out₂
  unfolding lines_below
  lines_next j a b = rw (add-one j) (both a b)

  pub lines-all : {out₀ out₁ : List ℕ} {from at : ℕ} (j n : ℕ) → j ≡ n → Wrote out₀ from (lines_below j line) at out₁ → Wrote out₀ from (lines_below n line) at out₁
  lines-all j n e w = wrote_as (ap (λ j. lines_below j line) e) w

  pub lines_same : (other : ℕ → List ℕ) (n : ℕ) → ((i : ℕ) → i < n → line i ≡ other i) → lines_below n line ≡ lines_below n other
  unfolding lines_below
  lines_same other zero h = refl
  lines_same other (suc n) h = ap₂ ◌++◌ (lines_same other n (λ i l. h i (omega arith))) (h n (omega arith))

-- the line as it is held
pub held-line : (init : ℕ) (X : List Stmt) (e : Evidence) (P : List ℕ) (H : List Notice) (delivered i : ℕ) (done : Bool) → done ≡ bit delivered i
    → notice_line i (binding_is (get_or H i (record { binding = Unbound })).binding) (held_text init X e P i) done ≡ held_line init X e P H delivered i
unfolding held_line binding_held
held-line init X e P H delivered i done f = ap (notice_line i (binding_is (get_or H i (record { binding = Unbound })).binding) (held_text init X e P i)) f
