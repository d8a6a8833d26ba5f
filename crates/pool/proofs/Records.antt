-- Laws of records: each is what one step of a loop over a record needs.
-- Assumes nothing.
use mathlib.Core.Path.{◌≡◌, sym, ap, ap₂, subst, ◌∙◌}
use mathlib.Core.Logic.{◌⊎◌, inl, inr}
use mathlib.Core.Bool.{Bool, true, false, ◌&&◌, ◌||◌, and_comm}
use mathlib.Core.List.{List, [], ◌∷◌, ◌++◌}
use Prim.Native.Nat.{ℕ, ◌+◌, ◌≤◌, ◌<◌, min}
use native.Mathlib.Numerals.{add-one}
use native.Mathlib.Omega.{arith}
use lib.Dec.{T, eqb}
use lib.ListN.{get_or, length, drop, take-append-drop}
use borrow.Author.Tests.{eq-eqb}
use Rattle.protocol.specs.Lists.{any, list_of}
use Rattle.protocol.specs.View.{View}
use Rattle.protocol.specs.Statement.{Stmt}
use Rattle.protocol.specs.Evidence.{signs}
use Rattle.protocol.specs.Count.{count_quorum}
use Rattle.protocol.proofs.Bits.{bit-zero}
use Rattle.protocol.proofs.Says.{says-eqb}
use Rattle.protocol.proofs.Count.{count_kept}
use Rattle.protocol.proofs.Numbered.{list_of-length}
use Rattle.views.specs.Steps.{Noted}
use Rattle.views.specs.Sets.{IsSet}
use Rattle.views.specs.Tally.{place_in, missing_in, Tallied, Signed, TallyOf}
use Rattle.views.proofs.Tables.{any-zero, any-suc, any_at, take-list_of}
use Rattle.views.proofs.Tallies.{some-missing, tally-first, tally-pass, tally-sign, tally-all}
use Rattle.pool.specs.Pool.{stmt_at, record_up_to, pool_len, pool_of, record_len, record_in}

module _ (W ids : List ℕ) where
  abbrev pub entry : ℕ → Stmt
  entry i = stmt_at W (get_or ids i 0)

  -- so far i numbers were read, at most 512
  pub so_far : (i : ℕ) → i ≤ 512 → record_up_to W ids i ≡ list_of i entry
  unfolding record_up_to
  so_far i l = let e : min i 512 ≡ i = omega arith in ap (λ n. list_of n entry) e

  pub whole : (len i : ℕ) → i ≡ min len 512 → record_up_to W ids i ≡ record_up_to W ids len
  unfolding record_up_to
  whole len i e = let q : min i 512 ≡ min len 512 = omega arith in ap (λ n. list_of n entry) q

  pub record-first : record_up_to W ids 0 ≡ []
  unfolding list_of
  record-first = so_far 0 (omega arith)

  pub record-next : (i : ℕ) → i < 512 → record_up_to W ids (i + 1) ≡ record_up_to W ids i ++ (entry i ∷ [])
  unfolding list_of
  record-next i l = so_far (i + 1) (omega arith) ∙ ap (λ n. list_of n entry) (add-one i) ∙ ap (λ X. X ++ (entry i ∷ [])) (sym (so_far i (omega arith)))

  pub so-long : (i : ℕ) → i ≤ 512 → length (record_up_to W ids i) ≡ i
  so-long i l = ap length (so_far i l) ∙ list_of-length i entry

  -- what was read is the front of the record
  pub record-split : (len i : ℕ) → i ≤ min len 512 → record_up_to W ids len ≡ record_up_to W ids i ++ drop i (record_up_to W ids len)
  unfolding record_up_to
  record-split len i l =
      let e : min i 512 ≡ i = omega arith in
      sym (take-append-drop i (list_of (min len 512) entry)) ∙ ap (λ X. X ++ drop i (list_of (min len 512) entry)) (take-list_of (min len 512) i entry l ∙ ap (λ n. list_of n entry) (sym e))

  module _ (p : Stmt → Bool) where
    pub none_first : any p (record_up_to W ids 0) ≡ false
    none_first = rw (so_far 0 (omega arith)) (any-zero p entry)

    pub any_next : (i : ℕ) → i < 512 → any p (record_up_to W ids (i + 1)) ≡ (any p (record_up_to W ids i) || p (entry i))
    any_next i l = rw (so_far i (omega arith), so_far (i + 1) (omega arith), add-one) (any-suc p entry i)

    pub none-next : (i : ℕ) → i < 512 → any p (record_up_to W ids i) ≡ false → p (entry i) ≡ false → any p (record_up_to W ids (i + 1)) ≡ false
    none-next i l e g = any_next i l ∙ ap₂ ◌||◌ e g

    pub found : (len i : ℕ) → i < min len 512 → p (entry i) ≡ true → any p (record_up_to W ids len) ≡ true
    unfolding record_up_to
    found len i l e = any_at p entry (min len 512) l e

    pub none : (len i : ℕ) → i ≡ min len 512 → any p (record_up_to W ids i) ≡ false → any p (record_up_to W ids len) ≡ false
    none len i l e = rw (whole len i l) at e

-- ---- a loop that counts a quorum of t

module _ (W ids : List ℕ) (t : View) (p : Stmt → Bool) where
  pub count-first : (x : ℕ) → Tallied t (λ k. false) x → TallyOf t p (record_up_to W ids 0) x
  count-first x a = subst (λ X. TallyOf t p X x) (sym (record-first W ids)) (tally-first t p x a)

  pub count-passes : (i x : ℕ) → i < 512 → p (entry W ids i) ≡ false → TallyOf t p (record_up_to W ids i) x → TallyOf t p (record_up_to W ids (i + 1)) x
  count-passes i x l e a = subst (λ X. TallyOf t p X x) (sym (record-next W ids i l)) (tally-pass t p (record_up_to W ids i) (entry W ids i) x a e)

  pub count-signs : (i x r : ℕ) → i < 512 → p (entry W ids i) ≡ true → Signed x (entry W ids i).origin i r → TallyOf t p (record_up_to W ids i) x → TallyOf t p (record_up_to W ids (i + 1)) r
  count-signs i x r l e g a = subst (λ X. TallyOf t p X r) (sym (record-next W ids i l)) (tally-sign t p (record_up_to W ids i) (entry W ids i) x a i r (so-long W ids i (omega arith)) e g)

  -- the same loop where it ends with the signer who completes the quorum: x is the tally before entry i, and the quorum is not complete
  abbrev pub Waiting : ℕ → ℕ → Type 0
  Waiting i x = TallyOf t p (record_up_to W ids i) x × (missing_in x ≡ 0 → ⊥)

  pub wait-first : (x : ℕ) → Tallied t (λ k. false) x → Waiting 0 x
  wait-first x a = (count-first x a, some-missing a)

  module _ (i x : ℕ) (l : i < 512) (w : Waiting i x) where
    pub wait-passes : p (stmt_at W (get_or ids i 0)) ≡ false → Waiting (i + 1) x
    wait-passes e = (count-passes i x l e w.0, w.1)

    -- the entry is signed by o, and b says whether that completes the quorum
    module _ (o r : ℕ) (b : Bool) (y : p (stmt_at W (get_or ids i 0)) ≡ true) (from : o ≡ (stmt_at W (get_or ids i 0)).origin) (g : Signed x o i r) (is : b ≡ eqb (missing_in r) 0) where
      next : TallyOf t p (record_up_to W ids (i + 1)) r
      next = count-signs i x r l y (subst (λ k. Signed x k i r) from g) w.0

      pub wait-signs : b ≡ false → Waiting (i + 1) r
      wait-signs e = (next, λ z. subst T (sym (eq-eqb (missing_in r) 0 z) ∙ sym is ∙ e) tt)

      pub wait-done : (len : ℕ) → i < min len 512 → b ≡ true → record { reached = true; read = i + 1 } ≡ count_quorum 16 t p (record_up_to W ids len)
      wait-done len m e =
          sym (ap (count_quorum 16 t p) (record-split W ids len (i + 1) (omega arith)) ∙ count_kept 16 t p (record_up_to W ids (i + 1)) (drop (i + 1) (record_up_to W ids len)) (subst (λ c. T c.reached) (sym here) tt) ∙ here)
        where
          full : missing_in r ≡ 0
          full = says-eqb.sound (subst T (sym (sym is ∙ e)) tt)

          place : (r ≡ x) ⊎ (place_in r ≡ i) → place_in r ≡ i
          place (inl q) = absurd (w.1 (ap missing_in (sym q) ∙ full))
          place (inr q) = q

          here : count_quorum 16 t p (record_up_to W ids (i + 1)) ≡ record { reached = true; read = i + 1 }
          here = next.done full ∙ ap (λ n. record { reached = true; read = n + 1 }) (place g.either)

  pub wait-all : (len i x end : ℕ) → i ≡ end → end ≡ min len 512 → Waiting i x → record { reached = false; read = end } ≡ count_quorum 16 t p (record_up_to W ids len)
  wait-all len i x end d e w =
      sym (ap (count_quorum 16 t p) (sym (whole W ids len i (d ∙ e))) ∙ tally-all t p (record_up_to W ids i) x w.0 w.1 ∙ ap (λ n. record { reached = false; read = n }) (so-long W ids i (omega arith) ∙ d))

-- ---- a loop that notes who signed

module _ (W ids : List ℕ) (p : Stmt → Bool) where
  pub set_first : IsSet 0 (signs p (record_up_to W ids 0))
  unfolding signs
  set_first = record { small = omega arith; bits = λ k l. bit-zero k ∙ sym (none_first W ids (λ s. eqb s.origin k && p s)) }

  pub set_next : (i seen o r : ℕ) (hit : Bool) → i < 512 → IsSet seen (signs p (record_up_to W ids i)) → Noted seen hit o r
      → hit ≡ p (stmt_at W (get_or ids i 0)) → o ≡ (stmt_at W (get_or ids i 0)).origin → IsSet r (signs p (record_up_to W ids (i + 1)))
  unfolding signs
  set_next i seen o r hit l s n y e = record {
    small = n.small s.small;
    bits = λ k h. n.bits k h ∙ ap₂ ◌||◌ (s.bits k h) (and_comm hit (eqb o k) ∙ ap₂ (λ x b. eqb x k && b) e y) ∙ sym (any_next W ids (λ s. eqb s.origin k && p s) i l);
  }

  pub set-whole : (len i r end : ℕ) → i ≡ end → end ≡ min len 512 → IsSet r (signs p (record_up_to W ids i)) → IsSet r (signs p (record_up_to W ids len))
  set-whole len i r end d e s = rw (whole W ids len i (d ∙ e)) at s

-- ---- how many statements there are

pub pool-length : (W : List ℕ) → length (pool_of W) ≡ pool_len W
unfolding pool_of
pool-length W = list_of-length (pool_len W) (stmt_at W)

pub record-length : (W R : List ℕ) → length (record_in W R) ≡ record_len R
unfolding record_up_to
record-length W R = list_of-length (record_len R) (λ i. stmt_at W (get_or R i 0))
