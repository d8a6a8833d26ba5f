-- Laws of counts that are told: the words of one, and where reports are judged.
-- Assumes nothing.
use Rattle.std.specs.Prelude.{if◌then◌else◌}
use mathlib.Core.Path.{◌≡◌, refl, sym, ap, ap₂, subst, ◌∙◌}
use mathlib.Core.Bool.{true, false, not, ◌&&◌}
use mathlib.Core.List.{List, [], ◌∷◌}
use Prim.Native.Nat.{ℕ, ◌≤◌, ◌<◌}
use mir.Val.{bool_byte}
use lib.Dec.{T, ltb}
use lib.ListN.{length}
use borrow.Author.Tests.{lt-ltb, le-ltb}
use Rattle.protocol.specs.View.{View, Ring}
use Rattle.protocol.specs.Statement.{Stmt}
use Rattle.protocol.specs.Evidence.{candidates, is_counted_on}
use Rattle.protocol.specs.Count.{Count, count_quorum}
use Rattle.protocol.specs.Signers.{store_set}
use Rattle.evidence.specs.declared.Evidence.{Evidence}
use Rattle.evidence.specs.Evidence.{EvidenceOf, Settled, reports_count}
use Rattle.pekdrav.specs.Counted.{count_words, judges, ToldWhere, stores_of}
use Rattle.pekdrav.proofs.Told.{flag_is}

-- two words, one after the other
pub written : (c : Count) → bool_byte c.reached ∷ c.read ∷ [] ≡ count_words c
written c = ap (λ n. n ∷ c.read ∷ []) (flag_is c.reached)

pub settled : {R : Ring} {senders : List ℕ} {X : List Stmt} {C G P : List ℕ} {e : Evidence} → EvidenceOf R senders X C G P e → e.conflict ≡ false → e.many ≡ false → Settled R senders X C G P e
settled of agree few = record { of = of; agree = agree; few = few }

module _ (R : Ring) (senders : List ℕ) (X : List Stmt) (C G P : List ℕ) (e : Evidence) (of : EvidenceOf R senders X C G P e) {A : Type 0} (value before : A) where
  unjudged : judges R senders X ≡ false → ToldWhere (judges R senders X) value before 0 before
  unjudged f = record { told = λ t. absurd (subst T f t); untold = λ t. (refl, refl) }

  pub told-conflict : e.conflict ≡ true → ToldWhere (judges R senders X) value before 0 before
  unfolding judges
  told-conflict y = unjudged (ap (λ b. not b && not (ltb 16 (length (candidates R X)))) (sym of.conflict ∙ y))

  module _ (agree : e.conflict ≡ false) where
    pub told-many : e.many ≡ true → ToldWhere (judges R senders X) value before 0 before
    unfolding judges
    told-many y = unjudged (ap₂ (λ b c. not b && not c) (sym of.conflict ∙ agree) (sym (of.many agree) ∙ y))

    module _ (few : e.many ≡ false) where
      pub told-value : (after : A) → after ≡ value → ToldWhere (judges R senders X) value before 1 after
      unfolding judges
      told-value after is = record {
        told = λ t. (refl, is);
        untold = λ t. absurd (subst (λ b. T (not b)) (ap₂ (λ b c. not b && not c) (sym of.conflict ∙ agree) (sym (of.many agree) ∙ few)) t);
      }

-- the count of reports, in words
pub count-told : (R : Ring) (senders : List ℕ) (X : List Stmt) (u : View) (c : Count) (after : List ℕ) → c ≡ reports_count R senders X u → after ≡ count_words c
    → after ≡ count_words (count_quorum R.width u (is_counted_on R senders X u) X)
unfolding reports_count
count-told R senders X u c after is w = w ∙ ap count_words is

-- the set behind a store quorum, of a notice of the ring or of another
module _ (R : Ring) (senders : List ℕ) (X : List Stmt) (i m : ℕ) where
  pub stores-far : length senders ≤ i → 0 ≡ stores_of R senders X i m
  unfolding stores_of
  stores-far l = sym (ap (λ b. if b then store_set R X i m else 0) (le-ltb i (length senders) l))

  pub stores-near : i < length senders → (r : ℕ) → r ≡ store_set R X i m → r ≡ stores_of R senders X i m
  unfolding stores_of
  stores-near l r e = e ∙ sym (ap (λ b. if b then store_set R X i m else 0) (lt-ltb i (length senders) l))
