-- The views in the slots are the candidates.
-- Assumes nothing.
use mathlib.Core.Path.{◌≡◌, refl, sym, ap, subst, ◌∙◌}
use mathlib.Core.Logic.{◌≢◌, ◌⊎◌, inl, inr}
use mathlib.Core.Bool.{true, false, not}
use mathlib.Core.List.Memᴰ
use mathlib.Core.List.{List, [], ◌∷◌}
use Prim.Native.Nat.{ℕ, ◌≤◌, ◌<◌}
use native.Mathlib.Omega.{arith}
use lib.Dec.{T, ltb}
use lib.ListN.{length, get_or}
use borrow.Author.Tests.{ltb-false}
use Rattle.protocol.specs.Lists.{◌∈◌, ◌⊆◌}
use Rattle.protocol.specs.View.{View, Ring, comparable, size, Within}
use Rattle.protocol.specs.Statement.{Stmt}
use Rattle.protocol.specs.Evidence.{candidates, Candidate, initial, chosen}
use Rattle.protocol.proofs.Bits.{Fits, below_of}
use Rattle.protocol.proofs.Says.{Says, says-or}
use Rattle.protocol.proofs.Decided.{says-within}
use Rattle.protocol.proofs.Quorums.{someone}
use Rattle.protocol.proofs.Histories.{init-in, size-le}
use Rattle.protocol.proofs.Numbered.{list_of-out}
use Rattle.protocol.proofs.Asked.{says-pairwise, candidates-exact}
use Rattle.protocol.proofs.Order as order
use Rattle.views.specs.View.{view_of, ring_of_word}
use Rattle.views.proofs.Views.{passes, fails, size-most}
use Rattle.pool.specs.Pool.{record_up_to}
use Rattle.pool.proofs.Laws.{view-fits}
use Rattle.tables.specs.Index.{key_at}
use Rattle.sealing.specs.declared.verdict.Verdict.{Verdict}
use Rattle.ranking.specs.Slots.{view_scale, choice_mark, Stands, Slots, Clash, occupied, Broken, Listed}
use Rattle.ranking.specs.Ranking.{AllFit, MarkedChoices, CandidatesOf}
use Rattle.ranking.proofs.Members.{Climbs, same-members}
use Rattle.ranking.proofs.Slots.{within-size, occupied-in, occupied-out, occupied-climbs}

abbrev Compare : View → View → Type 0
Compare u v = Within 16 u v ⊎ Within 16 v u

pub says-comparable : (u v : View) → Says (comparable 16 u v) (Compare u v)
unfolding comparable
says-comparable u v = says-or (says-within {u = u} {v = v}) (says-within {u = v} {v = u})

pub size-least : (v : View) → size 16 v < 33
size-least v = omega (arith, size-most v)

-- of two that differ the one that lies within the other is smaller
abbrev Grows : View → View → Type 0
Grows u v = u ≢ v → Within 16 u v → size 16 u < size 16 v

-- what is in order, and comparable, rises in size
climbs : (R : Ring) → R.width ≡ 16 → (l : List View) → order.Ordered R l → ((u : View) → u ∈ l → (v : View) → v ∈ l → Grows u v)
    → ((u : View) → u ∈ l → (v : View) → v ∈ l → Compare u v) → Climbs (size 16) l
climbs R w [] o f c = tt
climbs R w (u ∷ l) (g, o) f c = (
  λ v m. less v m (c u (Memᴰ.head refl) v (Memᴰ.tail m)),
  climbs R w l o (λ a i b j. f a (Memᴰ.tail i) b (Memᴰ.tail j)) (λ a i b j. c a (Memᴰ.tail i) b (Memᴰ.tail j)),
)
  where
    less : (v : View) → v ∈ l → Compare u v → size 16 u < size 16 v
    less v m (inl h) = f u (Memᴰ.head refl) v (Memᴰ.tail m) (g v m).1 h
    less v m (inr h) = absurd (omega (arith, f v (Memᴰ.tail m) u (Memᴰ.head refl) (λ e. (g v m).1 (sym e)) h, subst (λ n. size n u ≤ size n v) w (g v m).0))

-- the statements of a record are read from the pool
pub record-fits : (W ids : List ℕ) (n : ℕ) → AllFit (record_up_to W ids n)
unfolding record_up_to
record-fits W ids n s m = let (i, l, e) = list_of-out _ _ m in subst (λ s. Fits 16 s.view) (sym e) (view-fits W (get_or ids i 0))

-- the initial view, of which nothing is asked, or one that is greater and of the sixteen controllers
abbrev pub Later : ℕ → View → Type 0
Later init v = (v ≡ view_of init) ⊎ ((size 16 (view_of init) < size 16 v) × Fits 16 v)

module _ (init : ℕ) (X : List Stmt) (fits : AllFit X) where
  pub candidate-fits : {v : View} → Candidate (ring_of_word init) X v → Later init v
  candidate-fits (initial e) = inl e
  candidate-fits (chosen g b n i q) = let (k, (s, m, _, a)) = someone q in inr (omega (arith, size-le g (init-in g), b.less), subst (Fits 16) a.view (fits s m))

  grows : {u v : View} → Candidate (ring_of_word init) X u → Candidate (ring_of_word init) X v → Grows u v
  grows {u} {v} p q d w = go (candidate-fits p) (candidate-fits q)
    where
      go : Later init u → Later init v → size 16 u < size 16 v
      go (inl e) (inl f) = absurd (d (e ∙ sym f))
      go (inl e) (inr (l, _)) = omega (arith, ap (size 16) e)
      go (inr (l, _)) (inl f) = absurd (omega (arith, within-size w, ap (size 16) f))
      go (inr (_, f)) (inr (_, g)) = (below_of f g w d).less

  -- candidates of one size that differ are incomparable
  level-apart : {u v : View} → Candidate (ring_of_word init) X u → Candidate (ring_of_word init) X v → u ≢ v → size 16 u ≡ size 16 v → Compare u v → ⊥
  level-apart p q d e (inl w) = omega (arith, grows p q d w)
  level-apart p q d e (inr w) = omega (arith, grows q p (λ h. d (sym h)) w)

module _ (init : ℕ) (X : List Stmt) (K : List ℕ) (M : List Verdict) (n : ℕ) (choices : MarkedChoices init X K M n) where
  abbrev all : List View
  all = candidates (ring_of_word init) X

  stands-candidate : (w : ℕ) → Stands view_scale init (key_at K 0) (choice_mark M) n w → Candidate (ring_of_word init) X (view_of w)
  stands-candidate w (inl e) = initial (ap view_of e)
  stands-candidate w (inr (c, l, m, e)) = subst (λ x. Candidate (ring_of_word init) X (view_of x)) e (choices.sound c l m)

  stands-in : (w : ℕ) → Stands view_scale init (key_at K 0) (choice_mark M) n w → view_of w ∈ all
  stands-in w s = (candidates-exact (ring_of_word init) X (view_of w)).1 (stands-candidate w s)

  -- two of one size
  pub clash-conflict : Clash view_scale init (key_at K 0) (choice_mark M) n → (count : ℕ) (out : List ℕ) → CandidatesOf init X out (record { conflict = true; many = false; count = count })
  clash-conflict k count out = record {
    conflict = ap not (sym (fails (says-pairwise says-comparable all)
        (λ h. level-apart init X choices.fits (stands-candidate k.one k.stands) (stands-candidate k.other k.besides) k.differ k.level (h _ (stands-in k.one k.stands) _ (stands-in k.other k.besides)))));
    many = λ e. absurd (subst T e tt);
    views = λ e. absurd (subst T e tt);
  }

  member : (v : View) → v ∈ all → Candidate (ring_of_word init) X v
  member v m = (candidates-exact (ring_of_word init) X v).0 m

  module _ (S : List ℕ) (slots : Slots view_scale init (key_at K 0) (choice_mark M) n S) where
    abbrev shown : List View
    shown = occupied view_scale S 33

    slots-in : shown ⊆ all
    slots-in v m = let (j, l, e, f) = occupied-out view_scale S 33 m in subst (λ v. v ∈ all) f (stands-in (get_or S j 0) (slots.sound j l))

    word : (w : ℕ) → Stands view_scale init (key_at K 0) (choice_mark M) n w → view_of w ∈ shown
    word w s =
        let e : view_of (get_or S (size 16 (view_of w)) 0) ≡ view_of w = slots.complete w s in
        subst (λ v. v ∈ shown) e (occupied-in view_scale S 33 (size 16 (view_of w)) (size-least (view_of w)) (ap (size 16) e))

    in-slots : all ⊆ shown
    in-slots v m = go (choices.complete v (member v m))
      where
        go : (v ≡ view_of init) ⊎ ((c : ℕ) × (c < n) × (choice_mark M c ≡ true) × (view_of (key_at K 0 c) ≡ v)) → v ∈ shown
        go (inl e) = subst (λ v. v ∈ shown) (sym e) (word init (inl refl))
        go (inr (c, l, k, e)) = subst (λ v. v ∈ shown) e (word (key_at K 0 c) (inr (c, l, k, refl)))

    exact : ((u : View) → u ∈ shown → (v : View) → v ∈ shown → Compare u v) → shown ≡ all
    exact t =
        same-members (size 16) shown all (occupied-climbs view_scale S 33)
        (climbs (ring_of_word init) refl all (order.candidates-ordered (ring_of_word init) X) (λ u i v j. grows init X choices.fits (member u i) (member v j)) (λ u i v j. t u (in-slots u i) v (in-slots v j))) slots-in in-slots

    -- one is smaller than another, and not within it
    apart : (u v : View) → size 16 u < size 16 v → (Within 16 u v → ⊥) → Compare u v → ⊥
    apart u v l n (inl w) = n w
    apart u v l n (inr w) = omega (arith, within-size w)

    pub apart-conflict : Broken view_scale S 33 → (count : ℕ) (out : List ℕ) → CandidatesOf init X out (record { conflict = true; many = false; count = count })
    apart-conflict k count out = record {
      conflict = ap not (sym (fails (says-pairwise says-comparable all)
          (λ h. apart k.lower k.upper k.less k.apart (h _ (slots-in _ k.lower_in) _ (slots-in _ k.upper_in)))));
      many = λ e. absurd (subst T e tt);
      views = λ e. absurd (subst T e tt);
    }

    pub ranked : ((u : View) → u ∈ shown → (v : View) → v ∈ shown → Compare u v) → (count : ℕ) (out : List ℕ) → Listed S out count
        → CandidatesOf init X out (record { conflict = false; many = ltb 16 count; count = count })
    ranked t count out listed = record {
      conflict = ap not (sym (passes (says-pairwise says-comparable all) (λ u i v j. t u (in-slots u i) v (in-slots v j))));
      many = λ z. listed.many ∙ ap (λ l. ltb 16 (length l)) (exact t);
      views = λ z h. listed.views (ltb-false 16 count h) ∙ exact t;
    }
