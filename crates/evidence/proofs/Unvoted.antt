-- A record without votes shows the initial view alone.
-- Assumes nothing.
use Rattle.std.specs.Prelude.{if◌then◌else◌}
use mathlib.Core.Path.{◌≡◌, refl, sym, ap, subst, ◌∙◌}
use mathlib.Core.Logic.{inl, inr}
use mathlib.Core.Bool.{Bool, false, not}
use mathlib.Core.List.Memᴰ
use mathlib.Core.List.{List, [], ◌∷◌, map}
use mathlib.Core.Option.{none}
use Prim.Native.Nat.{ℕ, ◌≤◌}
use native.Mathlib.Omega.{arith}
use lib.Dec.{T, ltb}
use lib.ListN.{length, get_or, set}
use Rattle.protocol.specs.Lists.{◌∈◌, any, filter, first, when}
use Rattle.protocol.specs.View.{View}
use Rattle.protocol.specs.Statement.{Stmt, is_kind}
use Rattle.protocol.specs.Evidence.{wished, candidate, initial, chosen, start, agreed, Candidate, is_candidate, insert, insert_all, candidates, Sealed, certificates}
use Rattle.protocol.proofs.Says.{says-eqb, says-every, says_any}
use Rattle.protocol.proofs.Bits.{bit-zero}
use Rattle.protocol.proofs.Quorums.{someone}
use Rattle.protocol.proofs.Histories.{within_of}
use Rattle.protocol.proofs.Decided.{says-kind, says-shown}
use Rattle.protocol.proofs.Asked.{says-pairwise, candidates-exact, certificates-out}
use Rattle.views.specs.View.{view_of, ring_of_word}
use Rattle.views.proofs.Views.{passes, fails}
use Rattle.votes.specs.Votes.{is_vote}
use Rattle.votes.proofs.Alike.{Vote, says-vote}
use Rattle.ranking.specs.Ranking.{CandidatesOf, HistoriesOf}
use Rattle.evidence.specs.Shown.{CertificatesOf, StoredOf}
use Rattle.evidence.specs.Evidence.{EvidenceOf}
use Rattle.ranking.proofs.Ranks.{says-comparable}
use Rattle.ranking.proofs.Summits.{alone-views, alone}
use Rattle.evidence.proofs.Tied.{tied}

filter_none : {A : Type 0} (p : A → Bool) (l : List A) → ((a : A) → a ∈ l → p a ≡ false) → filter p l ≡ []
unfolding filter
filter_none p [] h = refl
filter_none p (a ∷ l) h = ap (λ b. if b then a ∷ filter p l else filter p l) (h a (Memᴰ.head refl)) ∙ filter_none p l (λ b m. h b (Memᴰ.tail m))

module _ (init : ℕ) (X : List Stmt) (voteless : any is_vote X ≡ false) where
  silent : {s : Stmt} → s ∈ X → Vote s → ⊥
  silent {s} m v = subst T voteless ((says_any says-vote X).complete (s, m, v))

  only-candidate : {v : View} → Candidate (ring_of_word init) X v → v ≡ view_of init
  only-candidate (initial e) = e
  only-candidate (chosen g b n i q) = let (_, (s, m, _, a)) = someone q in absurd (silent m (inl (inl (inl a.kind))))

  only-sealed : {H : List View} → Sealed (ring_of_word init) X H → H ≡ view_of init ∷ []
  only-sealed (start e) = e
  only-sealed (agreed g h i n c q) = let (_, (s, m, _, a)) = someone q in absurd (silent m (inl (inl (inr a.kind))))

  candidates-are : candidates (ring_of_word init) X ≡ view_of init ∷ []
  unfolding candidates filter insert_all insert
  candidates-are =
      ap (λ l. insert_all (ring_of_word init) [] (filter (is_candidate (ring_of_word init) X) (view_of init ∷ map (λ s. s.view) l)))
      (filter_none (is_kind 3) X (λ s m. fails (says-kind 3 s) (λ k. silent m (inl (inl (inl k))))))
      ∙ ap (λ b. insert_all (ring_of_word init) [] (if b then view_of init ∷ [] else [])) (passes (says-shown (ring_of_word init) X (candidate (view_of init))) (initial refl))

  candidates-of : (C : List ℕ) → length C ≡ 16 → CandidatesOf init X (set C 0 init) (record { conflict = false; many = false; count = 1 })
  candidates-of C long = record {
    conflict = ap not (sym (passes (says-pairwise says-comparable (candidates (ring_of_word init) X)) (λ u i v j. inl (within_of (inl (is u i ∙ sym (is v j)))))));
    many = λ z. ap (λ l. ltb 16 (length l)) (sym candidates-are);
    views = λ z h. alone-views C init long ∙ sym candidates-are;
  }
    where
      is : (v : View) → v ∈ candidates (ring_of_word init) X → v ≡ view_of init
      is v m = only-candidate ((candidates-exact (ring_of_word init) X v).0 m)

  histories-of : (G : List ℕ) → length G ≡ 16 → HistoriesOf init X (set G 0 init) (record { conflict = false; length = 1; skipped = 0 })
  histories-of G long = alone init X [] [] (λ a. false) 0 (record { sound = λ a l. absurd (omega arith); complete = λ H k. inl (only-sealed k) }) G long (record { none = λ a l. absurd (omega arith) })

  certificates-of : (senders P : List ℕ) → CertificatesOf init senders X P (record { conflict = false; some = 0 })
  certificates-of senders P = record {
    conflict = ap not (sym (passes (says-every (λ i. says-pairwise (λ a b. says-eqb {m = a} {n = b}) (certificates (ring_of_word init) senders X i)) (length senders)) (λ i l a u. absurd (uncertified i a u))));
    certificate = λ z i l. ap (λ b. when b (get_or P i 0)) (bit-zero i) ∙ go i (certificates (ring_of_word init) senders X i) refl;
    within = λ i l. bit-zero i;
  }
    where
      uncertified : (i m : ℕ) → m ∈ certificates (ring_of_word init) senders X i → ⊥
      uncertified i m u = let (_, (s, p, _, a)) = someone (certificates-out (ring_of_word init) senders X {i = i} {m = m} u).acked in silent p (inl (inr a.kind))

      go : (i : ℕ) (l : List ℕ) → certificates (ring_of_word init) senders X i ≡ l → none ≡ first l
      go i [] h = refl
      go i (m ∷ l) h = absurd (uncertified i m (subst (λ l. m ∈ l) (sym h) (Memᴰ.head refl)))

  stored_of : (P : List ℕ) → StoredOf init X 0 P 0
  stored_of P = record { are = λ i l y. absurd (subst T (sym y ∙ bit-zero i) tt) }

  pub unvoted : (wish : ℕ) (senders C G P : List ℕ) {C' G' : List ℕ} → length senders ≤ 64 → (length C ≡ 16) × (C' ≡ set C 0 init) → (length G ≡ 16) × (G' ≡ set G 0 init) → view_of wish ≡ wished (ring_of_word init) X
      → EvidenceOf (ring_of_word init) senders X C' G' P (record { conflict = false; many = false; backed = 0; wished = wish; count = 1; length = 1; skipped = 0; certified = 0; stored = 0 })
  unvoted wish senders C G P {C'} {G'} most (c, d) (g, h) w =
      tied wish (record { conflict = false; many = false; count = 1 }) (record { conflict = false; length = 1; skipped = 0 }) (record { conflict = false; some = 0 }) 0 0 false refl init senders X C' G' P most w
      (subst (λ C. CandidatesOf init X C (record { conflict = false; many = false; count = 1 })) (sym d) (candidates-of C c))
      (subst (λ G. HistoriesOf init X G (record { conflict = false; length = 1; skipped = 0 })) (sym h) (histories-of G g)) (certificates-of senders P) (stored_of P)
