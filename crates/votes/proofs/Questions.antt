-- Laws of questions: what a statement has to say to be counted.
-- Assumes nothing.
use mathlib.Core.Path.{◌≡◌, sym, ap, ap₂, subst, ◌∙◌}
use mathlib.Core.Logic.{◌⊎◌, inl, inr}
use mathlib.Core.Bool.{Bool, true, false, ◌&&◌, and_assoc, and-false}
use mathlib.Core.List.{List}
use Prim.Native.Nat.{ℕ, ◌≤◌, ◌<◌}
use native.Mathlib.Decide.{ℕ_discrete}
use native.Mathlib.Omega.{arith}
use lib.Dec.{eqb}
use lib.ListN.{length, get_or}
use borrow.Author.Tests.{eq-eqb, ne_eqb}
use Rattle.protocol.specs.Lists.{list_of}
use Rattle.protocol.specs.View.{View, same_view}
use Rattle.protocol.specs.History.{same_views}
use Rattle.protocol.specs.Statement.{Stmt, payload_of, agrees_view, agrees_history, acks, stores}
use Rattle.views.specs.View.{view_of, views_of}
use Rattle.views.proofs.Views.{view-inj, view-is, view-not, view-eqb}
use Rattle.views.proofs.Histories.{sames-short, sames-differ, sames_all}
use Rattle.pool.specs.Pool.{payload_from, word, count_of, view_at, stmt_at}
use Rattle.pool.proofs.Laws.{views-of, plain-payload}
use Rattle.std.specs.Bool.{MatchBool}
use Rattle.std.proofs.lemmas.List.FromFn.{length-range_with_len, get_or-range_with_len}
use Rattle.protocol.proofs.Numbered.{list_of-cong}
use Rattle.std.specs.List.{AllWithin, HoldsAt, range_with_len}
use Rattle.votes.specs.declared.question.Question.{Question}
use Rattle.votes.specs.Question.{asks}

-- ---- the views of statement s and the first of a list

module _ (W L : List ℕ) (s : ℕ) where
  abbrev listed : ℕ → View
  listed i = view_of (get_or L i 0)

  -- view p is the same in both
  abbrev pub Same : ℕ → Type 0
  Same p = view_at W s p ≡ listed p

  -- a word of another view
  module _ (p : ℕ) (fits : (i : ℕ) → get_or L i 0 < 18446744073709551616) where
    pub word-other : {a : ℕ} → view_of a ≡ view_at W s p → a < 18446744073709551616 → (a ≡ get_or L p 0 → ⊥) → Same p → ⊥
    word-other {a} e l d h = d (view-inj a (get_or L p 0) l (fits p) (e ∙ h))

  module _ (c n : ℕ) (is : c ≡ count_of W s) where
    pub views-short : (c ≡ n → ⊥) → false ≡ same_views (stmt_at W s).views (views_of L n)
    unfolding views_of
    views-short d = sames-short (view_at W s) listed c n d ∙ ap (λ k. same_views k (views_of L n)) (views-of W s c is)

    -- an answer of `all` over the numbers below n
    pub views-told : c ≡ n → (r : Bool) → MatchBool r (AllWithin Same (range_with_len 0 n) 0 (length (range_with_len 0 n))) ((k : ℕ) × (k < length (range_with_len 0 n)) × HoldsAt (λ p. Same p → ⊥) (range_with_len 0 n) k)
        → r ≡ same_views (stmt_at W s).views (views_of L n)
    unfolding views_of
    views-told e r t = go r t ∙ ap₂ (λ k m. same_views k (list_of m listed)) (views-of W s c is) e
      where
        number : (k : ℕ) → k < n → get_or (range_with_len 0 n) k 0 ≡ k
        number k l = omega (arith, get_or-range_with_len 0 n k 0 l)

        go : (r : Bool) → MatchBool r (AllWithin Same (range_with_len 0 n) 0 (length (range_with_len 0 n))) ((k : ℕ) × (k < length (range_with_len 0 n)) × HoldsAt (λ p. Same p → ⊥) (range_with_len 0 n) k)
            → r ≡ same_views (list_of c (view_at W s)) (list_of c listed)
        go true t = sames_all (view_at W s) listed c (list_of-cong c (view_at W s) listed (λ k l. subst Same (number k (omega (arith, e))) (t k 0 (omega arith) (omega (arith, e, length-range_with_len 0 n)))))
        go false (k, l, h) = let m : k < n = omega (arith, length-range_with_len 0 n) in sames-differ (view_at W s) listed c k (omega (arith, e)) (subst (λ p. Same p → ⊥) (number k m) (h 0))

-- ---- whether statement n is about the payload of a notice

module _ (W : List ℕ) (n i notice payload : ℕ) (is : i ≡ (stmt_at W n).notice) where
  pub notice-same : (x : ℕ) → i ≡ notice → x ≡ word W n payload_from → ((stmt_at W n).kind ≡ 5 → ⊥) → eqb x payload ≡ (eqb (stmt_at W n).notice notice && eqb (payload_of (stmt_at W n)) payload)
  notice-same x e f d = sym (ap₂ ◌&&◌ (eq-eqb (stmt_at W n).notice notice (sym is ∙ e)) (ap (λ y. eqb y payload) (plain-payload W n (ne_eqb (stmt_at W n).kind 5 d) ∙ sym f)))

-- ---- whether s is what q asks for

module _ (q : Question) (H : List ℕ) (s : Stmt) where
  -- s is about the payload of the notice that q asks for
  about : Bool
  about = eqb s.notice q.notice && eqb (payload_of s) q.what

  -- s is of the kind and at the view that q asks for
  same : Bool
  same = eqb s.kind q.kind && same_view s.at (view_of q.at)

  -- what is asked for, kind by kind

  is_view : q.kind ≡ 3 → asks q H s ≡ (same && same_view s.view (view_of q.what))
  unfolding asks agrees_view same
  is_view e = rw e

  is-history : q.kind ≡ 4 → asks q H s ≡ (same && same_views s.views (views_of H q.length))
  unfolding asks agrees_history same
  is-history e = rw e

  is-notice : (q.kind ≡ 7) ⊎ (q.kind ≡ 8) → asks q H s ≡ (same && about)
  unfolding asks acks stores same about
  is-notice (inl e) = rw e (and_assoc (eqb s.kind 7 && same_view s.at (view_of q.at)) (eqb s.notice q.notice) (eqb (payload_of s) q.what))
  is-notice (inr e) = rw e (and_assoc (eqb s.kind 8 && same_view s.at (view_of q.at)) (eqb s.notice q.notice) (eqb (payload_of s) q.what))

  is_none : (q.kind ≡ 3 → ⊥) → (q.kind ≡ 4 → ⊥) → (q.kind ≡ 7 → ⊥) → (q.kind ≡ 8 → ⊥) → asks q H s ≡ false
  unfolding asks
  is_none a b c d = rw (ne_eqb q.kind 3 a, ne_eqb q.kind 4 b, ne_eqb q.kind 7 c, ne_eqb q.kind 8 d)

  -- s of another kind or at another view is never asked for

  none-same : same ≡ false → false ≡ asks q H s
  none-same e = elim (ℕ_discrete q.kind 3) [
    | yes k ↦ sym (is_view k ∙ ap (λ b. b && same_view s.view (view_of q.what)) e)
    | no a ↦ elim (ℕ_discrete q.kind 4) [
      | yes k ↦ sym (is-history k ∙ ap (λ b. b && same_views s.views (views_of H q.length)) e)
      | no b ↦ elim (ℕ_discrete q.kind 7) [
        | yes k ↦ sym (is-notice (inl k) ∙ ap (λ b. b && about) e)
        | no c ↦ elim (ℕ_discrete q.kind 8) [
          | yes k ↦ sym (is-notice (inr k) ∙ ap (λ b. b && about) e)
          | no d ↦ sym (is_none a b c d)
        ]
      ]
    ]
  ]

  -- the kind k and the word a of the view are those of s
  module _ (k a : ℕ) (kind : k ≡ s.kind) (at : view_of a ≡ s.at) (small : a < 18446744073709551616) (fits : q.at < 18446744073709551616) where
    pub asks-not-at : (a ≡ q.at → ⊥) → false ≡ asks q H s
    unfolding same
    asks-not-at d = none-same (ap (λ b. eqb s.kind q.kind && b) (view-not a s.at q.at at d small fits) ∙ and-false (eqb s.kind q.kind))

    module _ (yes-kind : k ≡ q.kind) (yes-at : a ≡ q.at) where
      both : same ≡ true
      unfolding same
      both = ap₂ ◌&&◌ (eq-eqb s.kind q.kind (sym kind ∙ yes-kind)) (view-is a s.at q.at at yes-at small fits)

      pub asks-view : (w : ℕ) → q.kind ≡ 3 → view_of w ≡ s.view → w < 18446744073709551616 → q.what < 18446744073709551616 → eqb w q.what ≡ asks q H s
      asks-view w e v l m = view-eqb w s.view q.what v l m ∙ sym (is_view e ∙ ap (λ b. b && same_view s.view (view_of q.what)) both)

      pub asks-history : (b : Bool) → q.kind ≡ 4 → b ≡ same_views s.views (views_of H q.length) → b ≡ asks q H s
      asks-history b e f = f ∙ sym (is-history e ∙ ap (λ b. b && same_views s.views (views_of H q.length)) both)

      pub asks-notice : (b : Bool) → 7 ≤ q.kind → q.kind ≤ 8 → ((s.kind ≡ 5 → ⊥) → b ≡ (eqb s.notice q.notice && eqb (payload_of s) q.what)) → b ≡ asks q H s
      unfolding about
      asks-notice b l m f = f (λ e. omega arith) ∙ sym (is-notice either ∙ ap (λ b. b && about) both)
        where
          either : (q.kind ≡ 7) ⊎ (q.kind ≡ 8)
          either = elim (ℕ_discrete q.kind 7) [
            | yes e ↦ inl e
            | no d ↦ inr (omega arith)
          ]

  pub asks-not-kind : (k : ℕ) → k ≡ s.kind → (k ≡ q.kind → ⊥) → false ≡ asks q H s
  unfolding same
  asks-not-kind k e d = none-same (ap (λ b. b && same_view s.at (view_of q.at)) (ne_eqb s.kind q.kind (λ f. d (e ∙ f))))

  pub asks_none : (q.kind ≡ 3 → ⊥) → (q.kind ≡ 4 → ⊥) → (q.kind < 7) ⊎ (8 < q.kind) → false ≡ asks q H s
  asks_none a b (inl l) = sym (is_none a b (λ e. omega arith) (λ e. omega arith))
  asks_none a b (inr l) = sym (is_none a b (λ e. omega arith) (λ e. omega arith))

  -- no kind has the number that q asks for
  pub asks-unknown : (q.kind < 1) ⊎ (8 < q.kind) → false ≡ asks q H s
  asks-unknown (inl l) = asks_none (λ e. omega arith) (λ e. omega arith) (inl (omega arith))
  asks-unknown (inr l) = asks_none (λ e. omega arith) (λ e. omega arith) (inr l)
