-- Histories that start with others, and the views that those in the slots pass over.
-- Assumes nothing.
use mathlib.Core.Path.{◌≡◌, refl, sym, ap, ap₂, subst, ◌∙◌}
use mathlib.Core.Logic.{inl, inr}
use mathlib.Core.Bool.{Bool, true, false, not, ◌&&◌, ◌||◌, and-true, and-false, or-false}
use mathlib.Core.List.Memᴰ
use mathlib.Core.List.{List, [], ◌∷◌, ◌++◌, append-nil, append_assoc}
use Prim.Native.Nat.{ℕ, zero, suc, ◌+◌, ◌≤◌, ◌<◌}
use native.Mathlib.Decide.{dec_lt}
use native.Mathlib.Numerals.{add-one}
use native.Mathlib.Omega.{arith}
use lib.ListN.{length, get_or}
use borrow.Author.Tests.{eq-eqb, ne_eqb}
use Rattle.protocol.specs.Sets.{bit}
use Rattle.protocol.specs.Lists.{◌∈◌, any, list_of}
use Rattle.protocol.specs.View.{View, Ring, same_view, below, size}
use Rattle.protocol.specs.History.{top, Holds}
use Rattle.protocol.specs.Evidence.{passes_over}
use Rattle.protocol.proofs.Bits.{bit-zero}
use Rattle.views.specs.View.{view_of, ring_of_word}
use Rattle.views.specs.Steps.{Noted}
use Rattle.views.proofs.Tables.{any_append}
use Rattle.pool.specs.Pool.{count_of, view_at, stmt_at}
use Rattle.pool.proofs.Laws.{views-of}
use Rattle.ranking.specs.Slots.{history_scale, occupied, Starts}
use Rattle.ranking.specs.Ranking.{PassedToo, PassedOf}
use Rattle.ranking.proofs.Members.{Climbs, in_left, climbs-apart}
use Rattle.ranking.proofs.Slots.{here-none, here-one}

any_last : {A : Type 0} (p : A → Bool) (l : List A) (a : A) → any p (l ++ (a ∷ [])) ≡ (any p l || p a)
unfolding any
any_last p l a = any_append p l (a ∷ []) ∙ ap (λ b. any p l || b) (or-false (p a))

-- ---- a history that starts with another

pub starts-same : (H : List View) → Starts H H
starts-same H = record { rest = []; is = sym (append-nil H) }

pub starts-trans : (H K G : List View) → Starts K H → Starts G K → Starts G H
starts-trans H K G p q = record { rest = p.rest ++ q.rest; is = q.is ∙ ap (λ l. l ++ q.rest) p.is ∙ append_assoc H p.rest q.rest }

pub starts-holds : {K H : List View} → Starts K H → Holds K H
starts-holds {K} {H} p v m = subst (λ l. v ∈ l) (sym p.is) (in_left H p.rest m)

-- view by view: the first p are the same

pub alike-first : (f g : ℕ → View) → list_of 0 f ≡ list_of 0 g
unfolding list_of
alike-first f g = refl

pub alike-more : (p v w : ℕ) (f g : ℕ → View) → list_of p f ≡ list_of p g → view_of v ≡ f p → view_of w ≡ g p → v ≡ w → list_of (p + 1) f ≡ list_of (p + 1) g
unfolding list_of
alike-more p v w f g e a b q = rw add-one (ap₂ (λ l x. l ++ (x ∷ [])) e (sym a ∙ ap view_of q ∙ b))

starts-listed : (f : ℕ → View) (c n : ℕ) → c ≤ n → Starts (list_of n f) (list_of c f)
unfolding list_of
starts-listed f c zero l = let e : c ≡ 0 = omega arith in subst (λ c. Starts [] (list_of c f)) (sym e) (starts-same [])
starts-listed f c (suc n) l = elim (dec_lt n c) [
  | yes h ↦ (let e : c ≡ suc n = omega arith in subst (λ c. Starts (list_of (suc n) f) (list_of c f)) (sym e) (starts-same (list_of (suc n) f)))
  | no h ↦ starts-trans (list_of c f) (list_of n f) (list_of (suc n) f) (starts-listed f c n (omega arith)) (record { rest = f n ∷ []; is = refl })
]

pub starts-found : (W : List ℕ) (i j a c p : ℕ) → a ≡ count_of W i → c ≡ count_of W j → c ≤ a → p ≡ c → list_of p (view_at W i) ≡ list_of p (view_at W j) → Starts (stmt_at W i).views (stmt_at W j).views
starts-found W i j a c p e f l q same =
    let s = starts-listed (view_at W i) c a l in
    record { rest = s.rest; is = sym (views-of W i a e) ∙ s.is ∙ ap (λ l. l ++ s.rest) (subst (λ p. list_of p (view_at W i) ≡ list_of p (view_at W j)) q same ∙ views-of W j c f) }

-- ---- what one history passes over

module _ (init : ℕ) (u t : View) (H : List View) (topped : t ≡ top (ring_of_word init) H) (b : Bool) (asked : b ≡ below 16 u t) where
  parts : passes_over (ring_of_word init) u H ≡ (not (any (same_view u) H) && b)
  unfolding passes_over
  parts = ap (λ b. not (any (same_view u) H) && b) (sym (asked ∙ ap (below 16 u) topped))

  pub passes-above : b ≡ false → false ≡ passes_over (ring_of_word init) u H
  passes-above e = sym (parts ∙ ap (λ b. not (any (same_view u) H) && b) e ∙ and-false (not (any (same_view u) H)))

  pub passes-lacking : (has : Bool) → b ≡ true → has ≡ any (same_view u) H → not has ≡ passes_over (ring_of_word init) u H
  passes-lacking has e f = ap not f ∙ sym (parts ∙ ap (λ b. not (any (same_view u) H) && b) e ∙ and-true (not (any (same_view u) H)))

module _ (R : Ring) (H : List View) (list : List ℕ) (seen : ℕ) where
  -- the set r has, beside `seen`, the places below i
  pub record TooTo (i r : ℕ) : Type 0 where
    pub before : (j : ℕ) → j < i → bit r j ≡ (bit seen j || passes_over R (view_of (get_or list j 0)) H)
    pub after : (j : ℕ) → i ≤ j → j < 16 → bit r j ≡ bit seen j

  pub too-first : TooTo 0 seen
  too-first = record { before = λ j l. absurd (omega arith); after = λ j l m. refl }

  pub too-more : (i u so o r : ℕ) (hit : Bool) → i < 16 → u ≡ get_or list i 0 → o ≡ i → hit ≡ passes_over R (view_of u) H → Noted so hit o r → TooTo i so → TooTo (i + 1) r
  too-more i u so o r hit l is at e n s = record {
    before = λ j h. n.bits j (omega arith) ∙ elim (dec_lt j i) [
      | yes m ↦ ap₂ (λ a b. a || hit && b) (s.before j m) (ne_eqb o j (λ q. omega arith)) ∙ idle (bit seen j || passes_over R (view_of (get_or list j 0)) H)
      | no m ↦ (let q : i ≡ j = omega arith in
          ap₂ (λ a b. a || hit && b) (s.after j (omega arith) (omega arith)) (eq-eqb o j (at ∙ q)) ∙ ap (λ b. bit seen j || b) (and-true hit ∙ e ∙ ap (λ v. passes_over R (view_of v) H) (is ∙ ap (λ k. get_or list k 0) q)))
    ];
    after = λ j h m. n.bits j m ∙ ap₂ (λ a b. a || hit && b) (s.after j (omega arith) m) (ne_eqb o j (λ q. omega arith)) ∙ idle (bit seen j);
  }
    where
      idle : (a : Bool) → (a || hit && false) ≡ a
      idle a = ap (λ b. a || b) (and-false hit) ∙ or-false a

  pub too-all : (i n r : ℕ) → i ≡ n → TooTo i r → PassedToo R H list n seen r
  too-all i n r e s = record { bits = λ j l. s.before j (omega arith) }

-- ---- what the histories in the slots pass over

module _ (R : Ring) (W S list : List ℕ) (n : ℕ) where
  abbrev passed_to : ℕ → ℕ → Type 0
  passed_to k r = PassedOf R (occupied (history_scale W) S k) list n r

  pub passed_first : passed_to 0 0
  unfolding any occupied
  passed_first = record { bits = λ i l. bit-zero i }

  module _ (k m c seen : ℕ) (is : m ≡ get_or S k 0) (sized : c ≡ length (stmt_at W m).views) (s : passed_to k seen) where
    pub passed-skip : (c ≡ k → ⊥) → passed_to (k + 1) seen
    passed-skip d = rw add-one (subst (λ H. PassedOf R H list n seen) (sym (here-none (history_scale W) S k (λ h. d (sized ∙ ap (λ n. length (stmt_at W n).views) is ∙ h)))) s)

    pub passed-more : (r : ℕ) → c ≡ k → PassedToo R (stmt_at W m).views list n seen r → passed_to (k + 1) r
    passed-more r e p = rw add-one (
        subst (λ H. PassedOf R H list n r) (sym (here-one (history_scale W) S k (ap (λ n. length (stmt_at W n).views) (sym is) ∙ sym sized ∙ e)))
        (record { bits = λ i l. p.bits i l ∙ ap₂ (λ a n. a || passes_over R (view_of (get_or list i 0)) (stmt_at W n).views) (s.bits i l) is ∙ sym (any_last (passes_over R (view_of (get_or list i 0))) (occupied (history_scale W) S k) (stmt_at W (get_or S k 0)).views) }))

  pub passed-all : (k r : ℕ) → k ≡ n → passed_to k r → PassedOf R (occupied (history_scale W) S n) list n r
  passed-all k r e s = subst (λ k. PassedOf R (occupied (history_scale W) S k) list n r) e s

-- ---- a history that starts with H has no view that H passes over

pub unpassed : (w : ℕ) {G H : List View} (t u : View) → Climbs (size w) G → Starts G H → t ∈ H → u ∈ G → (u ∈ H → ⊥) → size w u < size w t → ⊥
unpassed w {G} {H} t u c s i m n l = elim (Memᴰ.append_cases H (subst (λ l. u ∈ l) s.is m)) [
  | inl j ↦ n j
  | inr j ↦ omega (arith, climbs-apart (size w) H s.rest (subst (Climbs (size w)) s.is c) i j)
]
