-- Acks and stores by quorums of sealed tops.
-- Assumes nothing.
use mathlib.Core.Path.{◌≡◌, refl, sym, ap, ap₂, subst, ◌∙◌}
use mathlib.Core.Logic.{◌⊎◌, inl, inr}
use mathlib.Core.Bool.{Bool, true, false, ◌&&◌, ◌||◌}
use mathlib.Core.List.{List}
use Prim.Native.Nat.{ℕ, ◌+◌, ◌%◌, ◌≤◌, ◌<◌}
use native.Mathlib.Decide.{ℕ_discrete}
use native.Mathlib.Omega.{arith}
use lib.Dec.{T, eqb, ltb, ltb→lt}
use borrow.Author.Tests.{eq-eqb, ne_eqb}
use Rattle.protocol.specs.View.{View}
use Rattle.protocol.specs.History.{top}
use Rattle.protocol.specs.Statement.{Stmt, is_kind, payload_of, Signed}
use Rattle.protocol.specs.Evidence.{signed_by_quorum, Quorum, sealed, Shown}
use Rattle.protocol.specs.Grounds.{is_top}
use Rattle.protocol.proofs.Says.{Says, from-true, says-self, says-and, says-or, says-eqb}
use Rattle.protocol.proofs.Monotone.{quorum-map}
use Rattle.protocol.proofs.Decided.{says-kind, says-backed}
use Rattle.protocol.proofs.Grounds.{Top, says-top}
use Rattle.protocol.specs.Count.{count_quorum}
use Rattle.views.specs.View.{view_of, ring_of_word}
use Rattle.views.specs.Tally.{place_in, missing_in}
use Rattle.views.proofs.Tallies.{tally-says}
use Rattle.pool.specs.Pool.{stmt_at}
use Rattle.votes.specs.Votes.{alike, entry, tag_by, GroupCounts}
use Rattle.votes.proofs.Alike.{Alike, says-alike, alike_same}
use Rattle.evidence.specs.Shown.{is_backed, listed, certifies_by}
use Rattle.evidence.specs.Casts.{Late}

-- ---- tests of one statement

-- what it says
module _ (notices : ℕ) (K : List ℕ) (known : ℕ) (s : Stmt) (r : Bool) (asked : r ≡ certifies_by notices K known s) (sure : r ≡ true) where
  certifying : ((s.kind ≡ 7) × T (ltb s.notice notices)) × T (listed K known s.notice (payload_of s))
  unfolding certifies_by
  certifying = (says-and (says-and (says-kind 7 s) (says-self (ltb s.notice notices))) (says-self (listed K known s.notice (payload_of s)))).sound (from-true (sym asked ∙ sure))

  pub certifies-fits : (j : ℕ) → j ≡ s.notice → j < notices
  certifies-fits j e = omega (arith, ltb→lt s.notice notices certifying.0.1)

  pub certifies-seven : s.kind ≡ 7
  certifies-seven = certifying.0.0

-- ---- a statement that a quorum of a sealed top signed

module _ (init : ℕ) (X : List Stmt) where
  abbrev backing : ℕ → View → (Stmt → Bool) → Bool
  backing k t p = (eqb k 7 || eqb k 8) && signed_by_quorum 16 X t p && is_top (ring_of_word init) X t

  backed-by : (s : Stmt) → is_backed init X s ≡ backing s.kind s.at (alike s)
  unfolding is_backed is_kind
  backed-by s = refl

  pub backed-other : (k : ℕ) (s : Stmt) → k ≡ s.kind → (k ≡ 7 → ⊥) → (k ≡ 8 → ⊥) → false ≡ is_backed init X s
  backed-other k s e d f = sym (backed-by s ∙ ap₂ (λ a b. (a || b) && signed_by_quorum 16 X s.at (alike s) && is_top (ring_of_word init) X s.at)
      (ne_eqb s.kind 7 (λ q. d (e ∙ q))) (ne_eqb s.kind 8 (λ q. f (e ∙ q))))

  seven-or-eight : (k : ℕ) → 7 ≤ k → k ≤ 8 → (eqb k 7 || eqb k 8) ≡ true
  seven-or-eight k l h = elim (ℕ_discrete k 7) [ yes e ↦ ap (λ b. b || eqb k 8) (eq-eqb k 7 e) | no n ↦ ap₂ ◌||◌ (ne_eqb k 7 n) (eq-eqb k 8 (omega arith)) ]

  module _ (k x : ℕ) (s : Stmt) (q : Bool) (e : k ≡ s.kind) (l : 7 ≤ k) (h : k ≤ 8) (counts : GroupCounts x s X) (asked : q ≡ eqb (missing_in x) 0) where
    by_kind : is_backed init X s ≡ (q && is_top (ring_of_word init) X s.at)
    by_kind = backed-by s ∙ ap₂ (λ a b. a && b && is_top (ring_of_word init) X s.at) (seven-or-eight s.kind (omega arith) (omega arith)) (tally-says s.at (alike s) X x counts ∙ sym asked)

    pub backed-few : q ≡ false → false ≡ is_backed init X s
    backed-few f = sym (by_kind ∙ ap (λ b. b && is_top (ring_of_word init) X s.at) f)

    pub backed-top : (t : ℕ) (r : Bool) → view_of t ≡ s.at → q ≡ true → r ≡ is_top (ring_of_word init) X (view_of t) → r ≡ is_backed init X s
    backed-top t r at f g = g ∙ ap (is_top (ring_of_word init) X) at ∙ sym (by_kind ∙ ap (λ b. b && is_top (ring_of_word init) X s.at) f)

  -- the group of what is backed has a quorum, and tells after how many statements
  pub backed-read : (s : Stmt) (x : ℕ) → T (is_backed init X s) → GroupCounts x s X → count_quorum 16 s.at (alike s) X ≡ record { reached = true; read = place_in x + 1 }
  unfolding is_backed
  backed-read s x b c =
      let ((_, q), _) = (says-and (says-and (says-self (is_kind 7 s || is_kind 8 s)) (says-self (signed_by_quorum 16 X s.at (alike s)))) (says-self (is_top (ring_of_word init) X s.at))).sound b in
      c.done (says-eqb.sound (subst T (tally-says s.at (alike s) X x c) q))

  -- those that say the same are backed alike
  pub backed-alike : {a s : Stmt} → Alike a s → is_backed init X a ≡ is_backed init X s
  backed-alike {a} {s} al =
      let k = sym al.kind in
      let t = sym al.at in
      backed-by a ∙ (λ i. backing (k i) (t i) (alike_same al i)) ∙ sym (backed-by s)

  pub says-backed-by : (s : Stmt) → Says (is_backed init X s) ((((s.kind ≡ 7) ⊎ (s.kind ≡ 8)) × Quorum 16 s.at (Signed X (Alike s))) × Top (ring_of_word init) X s.at)
  unfolding is_backed
  says-backed-by s = says-and (says-and (says-or (says-kind 7 s) (says-kind 8 s)) (says-backed (says-alike s))) (says-top (ring_of_word init) X s.at)

  -- ---- an ack or a store of notice i at t for m

  pub record Cast (k : ℕ) (t : View) (i m : ℕ) (s : Stmt) : Type 0 where
    pub kind : s.kind ≡ k
    pub at : s.at ≡ t
    pub notice : s.notice ≡ i
    pub payload : payload_of s ≡ m

  pub cast-of : (k : ℕ) {s x : Stmt} → Late k → s.kind ≡ k → Alike s x → Cast k s.at s.notice (payload_of s) x
  cast-of k (inl e) q al = record { kind = al.kind ∙ q; at = al.at; notice = al.notice (omega (arith, q, e)); payload = al.acked (q ∙ e) }
  cast-of k (inr e) q al = record { kind = al.kind ∙ q; at = al.at; notice = al.notice (omega (arith, q, e)); payload = al.stored (q ∙ e) }

  alike_of : (k : ℕ) {s x : Stmt} {t : View} {i m : ℕ} → Late k → Cast k t i m s → Cast k t i m x → Alike s x
  alike_of k {s} {x} l c d = record {
    vote = elim l [ inl e ↦ inl (inr (c.kind ∙ e)) | inr e ↦ inr (c.kind ∙ e) ];
    kind = d.kind ∙ sym c.kind;
    at = d.at ∙ sym c.at;
    view = λ q. absurd (late (sym c.kind ∙ q) l);
    views = λ q. absurd (far (sym c.kind ∙ q) l);
    notice = λ q. d.notice ∙ sym c.notice;
    acked = λ q. d.payload ∙ sym c.payload;
    stored = λ q. d.payload ∙ sym c.payload;
  }
    where
      late : k ≡ 3 → Late k → ⊥
      late q (inl e) = omega arith
      late q (inr e) = omega arith

      far : k ≡ 4 → Late k → ⊥
      far q (inl e) = omega arith
      far q (inr e) = omega arith

  pub signed-map : {P Q : Stmt → Type 0} {t : View} → ((s : Stmt) → P s → Q s) → Quorum 16 t (Signed X P) → Quorum 16 t (Signed X Q)
  signed-map f q = quorum-map (λ k (s, m, o, p). (s, m, o, f s p)) q

  -- what is backed is cast by a quorum of a sealed top
  pub cast-quorum : (k : ℕ) (s : Stmt) → Late k → s.kind ≡ k → T (is_backed init X s)
      → (G : List View) × Shown (ring_of_word init) X (sealed G) × Quorum 16 (top (ring_of_word init) G) (Signed X (Cast k (top (ring_of_word init) G) s.notice (payload_of s)))
  cast-quorum k s l e b =
      let ((_, q), (G, g, h)) = (says-backed-by s).sound b in
      (G, g, subst (λ t. Quorum 16 t (Signed X (Cast k t s.notice (payload_of s)))) (sym h) (signed-map (λ x. cast-of k l e) q))

  pub quorum-cast : (k i m : ℕ) (s : Stmt) {G : List View} → Late k → Shown (ring_of_word init) X (sealed G) → Quorum 16 (top (ring_of_word init) G) (Signed X (Cast k (top (ring_of_word init) G) i m))
      → Cast k (top (ring_of_word init) G) i m s → T (is_backed init X s)
  quorum-cast k i m s {G} l g q c = (says-backed-by s).complete (
    (elim l [ inl e ↦ inl (c.kind ∙ e) | inr e ↦ inr (c.kind ∙ e) ], subst (λ t. Quorum 16 t (Signed X (Alike s))) (sym c.at) (signed-map (λ x d. alike_of k l c d) q)),
    (G, g, sym c.at),
  )

-- ---- the parts of a group's word, as they were read

pub at_place : (W ids : List ℕ) (t : ℕ) {f i : ℕ} → f ≡ i → view_of t ≡ (entry W ids f).at → view_of t ≡ (entry W ids i).at
at_place W ids t e a = a ∙ ap (λ i. (entry W ids i).at) e

-- the kind of its votes
pub tag-kind : (W ids : List ℕ) (x i : ℕ) → x ≡ tag_by (entry W ids i) → x % 256 ≡ (entry W ids i).kind
unfolding tag_by stmt_at
tag-kind W ids x i e = omega arith
