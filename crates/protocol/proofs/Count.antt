-- The count that stops says what the whole record says, and reads no further than the statement that completes the quorum.
-- Assumes nothing.
use Rattle.std.specs.Prelude.{if◌then◌else◌}
use mathlib.Core.Path.{◌≡◌, refl, sym, ap, ap₂, subst, ◌∙◌}
use mathlib.Core.Bool.{Bool, true, false, not, ◌&&◌, ◌||◌}
use mathlib.Core.List.{List, [], ◌∷◌, ◌++◌}
use Prim.Native.Nat.{ℕ, zero, suc, ◌≤◌, ◌<◌}
use native.Mathlib.Omega.{arith}
use native.Mathlib.Nat.{le_trans}
use lib.Dec.{T, eqb, leb}
use lib.ListN.{length, take}
use Rattle.protocol.specs.Sets.{count}
use Rattle.protocol.specs.Lists.{any}
use Rattle.protocol.specs.View.{View, member, quorum, member_count, has_members}
use Rattle.protocol.specs.Statement.{Stmt}
use Rattle.protocol.specs.Evidence.{signs, has_quorum, signed_by_quorum}
use Rattle.protocol.specs.Count.{Count, one_more, with_signer, count_quorum_from, count_quorum, CountStops, CountsMembers}
use Rattle.protocol.proofs.Counting.{count-mono}
use Rattle.protocol.proofs.Says.{says-and, says-self, says-leb, says-eqb}

pointwise : {A B : Type 0} {f g : A → B} → ((a : A) → f a ≡ g a) → f ≡ g
pointwise h i a = h a i

or-false : (a : Bool) → (a || false) ≡ a
or-false true = refl
or-false false = refl

or-or : (a b c : Bool) → ((a || b) || c) ≡ (a || (b || c))
or-or true b c = refl
or-or false b c = refl

or_left : (a b : Bool) → T a → T (a || b)
or_left true b t = tt
or_left false b t = elim t [ ]

and_mono : (m a b : Bool) → (T a → T b) → T (m && a) → T (m && b)
and_mono true a b f t = f t
and_mono false a b f t = elim t [ ]

is_true : (b : Bool) → T b → true ≡ b
is_true true t = refl
is_true false t = elim t [ ]

is_false : (b : Bool) → T (not b) → b ≡ false
is_false false t = refl
is_false true t = elim t [ ]

module _ (width : ℕ) (t : View) (p : Stmt → Bool) where
  -- more signers are a quorum too
  more : (f g : ℕ → Bool) → ((k : ℕ) → T (f k) → T (g k)) → T (has_quorum width t f) → T (has_quorum width t g)
  more f g h q =
      let (m, l) = (says-and (says-self (has_members width t)) (says-leb {m = quorum (member_count width t)} {n = count width (λ k. member t k && f k)})).sound q in
      (says-and (says-self (has_members width t)) (says-leb {m = quorum (member_count width t)} {n = count width (λ k. member t k && g k)})).complete
      (m, le_trans l (count-mono width (λ k. member t k && f k) (λ k. member t k && g k) (λ k _. and_mono (member t k) (f k) (g k) (h k))))

  -- those in who, and who signed in X
  joint : (ℕ → Bool) → List Stmt → ℕ → Bool
  joint who X k = who k || signs p X k

  joint-nil : (who : ℕ → Bool) → joint who [] ≡ who
  unfolding joint signs any
  joint-nil who = pointwise (λ k. or-false (who k))

  joint-cons : (who : ℕ → Bool) (s : Stmt) (X : List Stmt) → joint (with_signer p s who) X ≡ joint who (s ∷ X)
  unfolding joint signs any with_signer
  joint-cons who s X = pointwise (λ k. or-or (who k) (eqb s.origin k && p s) (any (λ s. eqb s.origin k && p s) X))

  -- the same of a count that begins with some signers
  record StopsFrom (who : ℕ → Bool) (X : List Stmt) (a : Count) : Type 0 where
    says : a.reached ≡ has_quorum width t (joint who X)
    all : T (not a.reached) → a.read ≡ length X
    within : a.read ≤ length X
    up_to : T a.reached → T (has_quorum width t (joint who (take a.read X)))
    before : (n : ℕ) → n < a.read → T (not (has_quorum width t (joint who (take n X))))

  stops-from : (who : ℕ → Bool) (X : List Stmt) → StopsFrom who X (count_quorum_from width t p who X)
  unfolding count_quorum_from joint
  stops-from who [] = record {
    says = ap (has_quorum width t) (sym (joint-nil who));
    all = λ n. refl;
    within = omega arith;
    up_to = λ q. subst (λ f. T (has_quorum width t f)) (sym (joint-nil who)) q;
    before = λ n l. absurd (omega arith);
  }
  stops-from who (s ∷ X) = go (has_quorum width t who) refl (stops-from (with_signer p s who) X)
    where
      go : (b : Bool) → has_quorum width t who ≡ b → StopsFrom (with_signer p s who) X (count_quorum_from width t p (with_signer p s who) X)
          → StopsFrom who (s ∷ X) (if b then record { reached = true; read = 0 } else one_more (count_quorum_from width t p (with_signer p s who) X))
      go true e ih = record {
        says = is_true _ (more who (joint who (s ∷ X)) (λ k. or_left (who k) (signs p (s ∷ X) k)) (subst T (sym e) tt));
        all = λ n. absurd n;
        within = omega arith;
        up_to = λ q. subst T (sym e ∙ ap (has_quorum width t) (sym (joint-nil who))) tt;
        before = λ n l. absurd (omega arith);
      }
      go false e ih = record {
        says = ih.says ∙ ap (has_quorum width t) (joint-cons who s X);
        all = λ n. ap suc (ih.all n);
        within = omega (arith, ih.within);
        up_to = λ q. subst (λ f. T (has_quorum width t f)) (joint-cons who s (take (count_quorum_from width t p (with_signer p s who) X).read X)) (ih.up_to q);
        before = early;
      }
        where
          early : (n : ℕ) → n < suc (count_quorum_from width t p (with_signer p s who) X).read → T (not (has_quorum width t (joint who (take n (s ∷ X)))))
          early zero l = subst (λ b. T (not b)) (sym e ∙ ap (has_quorum width t) (sym (joint-nil who))) tt
          early (suc n) l = subst (λ f. T (not (has_quorum width t f))) (joint-cons who s (take n X)) (ih.before n (omega arith))

  pub stops : (X : List Stmt) → CountStops width t p X
  unfolding count_quorum joint signed_by_quorum
  stops X = let r = stops-from (λ k. false) X in record { says = r.says; all = r.all; within = r.within; up_to = r.up_to; before = r.before }

  -- ---- one statement after another

  -- a count that is complete reads nothing that follows
  kept_from : (who : ℕ → Bool) (X Y : List Stmt) → T (count_quorum_from width t p who X).reached → count_quorum_from width t p who (X ++ Y) ≡ count_quorum_from width t p who X
  unfolding count_quorum_from
  kept_from who [] [] q = refl
  kept_from who [] (s ∷ Y) q = rw (sym (is_true (has_quorum width t who) q)) refl
  kept_from who (s ∷ X) Y q = go (has_quorum width t who) q (kept_from (with_signer p s who) X Y)
    where
      rest : List Stmt → Count
      rest Z = count_quorum_from width t p (with_signer p s who) Z

      go : (b : Bool) → T (if b then record { reached = true; read = 0 } else one_more (rest X)).reached → (T (rest X).reached → rest (X ++ Y) ≡ rest X)
          → (if b then record { reached = true; read = 0 } else one_more (rest (X ++ Y))) ≡ (if b then record { reached = true; read = 0 } else one_more (rest X))
      go true q ih = refl
      go false q ih = ap one_more (ih q)

  pub count_kept : (X Y : List Stmt) → T (count_quorum width t p X).reached → count_quorum width t p (X ++ Y) ≡ count_quorum width t p X
  unfolding count_quorum
  count_kept X Y q = kept_from (λ k. false) X Y q

  -- one that is not reads the next
  next-from : (who : ℕ → Bool) (X : List Stmt) (s : Stmt) → T (not (count_quorum_from width t p who X).reached) → (count_quorum_from width t p who (X ++ (s ∷ []))).read ≡ suc (length X)
  unfolding count_quorum_from
  next-from who [] s q = rw (is_false (has_quorum width t who) q) refl
  next-from who (x ∷ X) s q = go (has_quorum width t who) q (next-from (with_signer p x who) X s)
    where
      rest : List Stmt → Count
      rest Z = count_quorum_from width t p (with_signer p x who) Z

      go : (b : Bool) → T (not (if b then record { reached = true; read = 0 } else one_more (rest X)).reached) → (T (not (rest X).reached) → (rest (X ++ (s ∷ []))).read ≡ suc (length X))
          → (if b then record { reached = true; read = 0 } else one_more (rest (X ++ (s ∷ [])))).read ≡ suc (suc (length X))
      go true q ih = absurd q
      go false q ih = ap suc (ih q)

  pub count_next : (X : List Stmt) (s : Stmt) → T (not (count_quorum width t p X).reached) → (count_quorum width t p (X ++ (s ∷ []))).read ≡ suc (length X)
  unfolding count_quorum
  count_next X s q = next-from (λ k. false) X s q

-- ---- only members count

-- one that is in both, or neither, of f and g where it is a member is so with a signer more
joined : (m f g e o p : Bool) → (T e → o ≡ m) → (m && f) ≡ (m && g) → (m && (f || e && p)) ≡ (m && (g || e && (o && p)))
joined false f g e o p q h = refl
joined true f g false o p q h = ap (λ x. x || false) h
joined true f g true o p q h = ap₂ (λ x y. x || (y && p)) h (sym (q tt))

module _ (width : ℕ) (t : View) (p : Stmt → Bool) where
  own : Stmt → Bool
  own s = member t s.origin && p s

  same-quorum : (f g : ℕ → Bool) → ((k : ℕ) → (member t k && f k) ≡ (member t k && g k)) → has_quorum width t f ≡ has_quorum width t g
  same-quorum f g h = ap (λ w. has_members width t && leb (quorum (member_count width t)) (count width w)) (pointwise h)

  own-from : (f g : ℕ → Bool) (X : List Stmt) → ((k : ℕ) → (member t k && f k) ≡ (member t k && g k)) → count_quorum_from width t p f X ≡ count_quorum_from width t own g X
  unfolding count_quorum_from with_signer own
  own-from f g [] h = ap (λ b. record { reached = b; read = 0 }) (same-quorum f g h)
  own-from f g (s ∷ X) h = ap₂ (λ b a. if b then record { reached = true; read = 0 } else one_more a) (same-quorum f g h) (own-from (with_signer p s f) (with_signer own s g) X next)
    where
      next : (k : ℕ) → (member t k && with_signer p s f k) ≡ (member t k && with_signer own s g k)
      next k = joined (member t k) (f k) (g k) (eqb s.origin k) (member t s.origin) (p s) (λ e. ap (member t) (says-eqb.sound e)) (h k)

  -- what those sign who are no members changes nothing, and a view without members has no quorum
  pub counts-members : (X : List Stmt) → CountsMembers width t p X
  unfolding count_quorum own signed_by_quorum
  counts-members X = record {
    others = own-from (λ k. false) (λ k. false) X (λ k. refl);
    empty = λ e. subst (λ b. T (not b)) (sym ((stops width t p X).says ∙ ap (λ b. b && leb (quorum (member_count width t)) (count width (λ k. member t k && signs p X k))) (is_false (has_members width t) e))) tt;
  }
