-- The greatest history has views, and at most sixteen. The views that the evidence tells are of the sixteen controllers, if the initial view is: so their words may be read as structs.
-- Assumes nothing.
use mathlib.Core.Path.{◌≡◌, refl, sym, ap, subst, ◌∙◌}
use mathlib.Core.Logic.{inl, inr}
use mathlib.Core.Bool.{false, not}
use mathlib.Core.List.{List}
use Prim.Native.Nat.{ℕ, ◌≤◌, ◌<◌}
use native.Mathlib.Omega.{arith}
use lib.Dec.{T}
use lib.ListN.{length, get_or}
use Rattle.protocol.specs.Lists.{◌∈◌}
use Rattle.protocol.specs.View.{View, Ring}
use Rattle.protocol.specs.Statement.{Stmt}
use Rattle.protocol.specs.Evidence.{wished, Candidate, Sealed, start, agreed, greatest, joined_by, left_by}
use Rattle.protocol.proofs.Bits.{Fits}
use Rattle.protocol.proofs.Asked.{candidates-exact, greatest-holds}
use Rattle.protocol.proofs.FieldRules.{sealed-candidate}
use Rattle.protocol.proofs.Histories.{sealed-short}
use Rattle.views.specs.View.{view_of, view_in, ring_of_word, views_of}
use Rattle.views.proofs.Sets.{set_of-lt}
use Rattle.views.proofs.Tables.{views-count}
use Rattle.views.proofs.Views.{view-whole}
use Rattle.pool.specs.Pool.{record_in}
use Rattle.ranking.proofs.Members.{list_of-in}
use Rattle.ranking.proofs.Ranks.{record-fits, candidate-fits}
use Rattle.evidence.specs.declared.Evidence.{Evidence}
use Rattle.evidence.specs.Evidence.{EvidenceOf, Settled, Narrow}

narrow-all : (list : List ℕ) (n : ℕ) → ((v : View) → v ∈ views_of list n → Fits 16 v) → Narrow list n
unfolding views_of
narrow-all list n f = record { at = λ i l. view-whole (get_or list i 0) refl (f _ (list_of-in n (λ i. view_of (get_or list i 0)) i l)) }

-- ---- the greatest history, where there is no conflict

sealed-some : {R : Ring} {X : List Stmt} {H : List View} → Sealed R X H → 0 < length H
sealed-some (start e) = omega (arith, ap length e)
sealed-some (agreed g h t n v q) = omega (arith, ap length h.begins)

module _ (R : Ring) (senders : List ℕ) (X : List Stmt) (C G P : List ℕ) (e : Evidence) (of : EvidenceOf R senders X C G P e) (agree : e.conflict ≡ false) where
  greatest-sealed : Sealed R X (greatest R X)
  greatest-sealed = (greatest-holds R senders X (subst (λ b. T (not b)) (sym agree ∙ of.conflict) tt)).0

  pub some-view : 0 < e.length
  some-view = omega (arith, sealed-some greatest-sealed, ap length (of.greatest agree), views-count G e.length)

  pub length_most : e.length ≤ 16
  length_most = omega (arith, views-count G e.length, ap length (of.greatest agree), sealed-short greatest-sealed)

-- ---- of the sixteen controllers

module _ (init : ℕ) (senders W ids C G P : List ℕ) (e : Evidence) where
  abbrev X : List Stmt
  X = record_in W ids

  pub wished-fits : EvidenceOf (ring_of_word init) senders X C G P e → Fits 16 (view_of e.wished)
  unfolding wished
  wished-fits of = subst (Fits 16) (sym of.wished) (record { joined = set_of-lt 16 (joined_by (ring_of_word init) X); left = set_of-lt 16 (left_by (ring_of_word init) X) })

  pub wished-narrow : EvidenceOf (ring_of_word init) senders X C G P e → view_in e.wished ≡ view_of e.wished
  wished-narrow of = view-whole e.wished refl (wished-fits of)

  module _ (fits : Fits 16 (view_of init)) where
    fits-of : {v : View} → Candidate (ring_of_word init) X v → Fits 16 v
    fits-of {v} k = elim (candidate-fits init X (record-fits W ids (get_or ids 512 0)) k) [ inl e ↦ subst (Fits 16) (sym e) fits | inr (_, f) ↦ f ]

    pub candidates-narrow : Settled (ring_of_word init) senders X C G P e → Narrow C e.count
    candidates-narrow settled =
        narrow-all C e.count (λ v m. fits-of ((candidates-exact (ring_of_word init) X v).0 (subst (λ l. v ∈ l) (settled.of.candidates settled.agree settled.few) m)))

    -- however many candidates there are
    pub greatest-narrow : EvidenceOf (ring_of_word init) senders X C G P e → e.conflict ≡ false → Narrow G e.length
    greatest-narrow of agree =
        narrow-all G e.length (λ v m. fits-of (sealed-candidate (greatest-sealed (ring_of_word init) senders X C G P e of agree) (subst (λ l. v ∈ l) (of.greatest agree) m)))
