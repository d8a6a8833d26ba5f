-- The tables and verdicts mark the candidates and the sealed histories; the parts of the evidence, put together.
-- Assumes nothing.
use mathlib.Core.Path.{◌≡◌, refl, sym, ap, ap₂, subst, ◌∙◌}
use mathlib.Core.Logic.{◌⊎◌, inl, inr}
use mathlib.Core.Bool.{Bool, true, false, not, ◌||◌}
use mathlib.Core.List.{List, [], ◌∷◌}
use Prim.Native.Nat.{ℕ, ◌/◌, ◌%◌, ◌≤◌, ◌<◌}
use native.Mathlib.Omega.{arith}
use lib.Dec.{T, eqb}
use lib.ListN.{length, get_or}
use Rattle.protocol.specs.Sets.{every}
use Rattle.protocol.specs.Lists.{any, pairwise}
use Rattle.protocol.specs.View.{View, comparable}
use Rattle.protocol.specs.History.{same_views, holds}
use Rattle.protocol.specs.Statement.{Stmt}
use Rattle.protocol.specs.Evidence.{wished, candidate, sealed, Candidate, initial, chosen, is_candidate, candidates, sealed_histories, certificates, is_conflict, greatest}
use Rattle.protocol.specs.Grounds.{is_top}
use Rattle.protocol.proofs.Says.{Says, is_true, from-true, says-self, says-and, says-or, says-eqb, says_any}
use Rattle.protocol.proofs.Bits.{Fits}
use Rattle.protocol.proofs.Quorums.{someone}
use Rattle.protocol.proofs.Decided.{says-sames, says-shown}
use Rattle.protocol.proofs.Numbered.{list_of-out}
use Rattle.protocol.proofs.Asked.{greatest-holds}
use Rattle.views.specs.View.{view_of, ring_of_word, views_of, word_of}
use Rattle.pool.specs.Pool.{record_in}
use Rattle.tables.specs.Index.{key_at}
use Rattle.votes.specs.Tables.{IsWord, up_to, choice_at, agreement_at, gives, seals_at, seals_as, Tables}
use Rattle.sealing.specs.declared.verdict.Verdict.{Verdict}
use Rattle.sealing.specs.Memos.{Verdicts}
use Rattle.ranking.specs.declared.Ranked.{Ranked}
use Rattle.ranking.specs.declared.Summit.{Summit}
use Rattle.evidence.specs.declared.certificates.Certified.{Certified}
use Rattle.ranking.specs.Slots.{choice_mark, seal_mark}
use Rattle.ranking.specs.Ranking.{MarkedChoices, MarkedAgreements, CandidatesOf, HistoriesOf}
use Rattle.evidence.specs.Shown.{CertificatesOf, StoredOf}
use Rattle.evidence.specs.Evidence.{EvidenceOf}
use Rattle.ranking.proofs.Members.{list_of-in}
use Rattle.ranking.proofs.Ranks.{record-fits}
use Rattle.ranking.proofs.Summits.{held_same}

-- ---- the marks

-- the word of a view of the sixteen controllers
word-for : (v : View) → Fits 16 v → (w : ℕ) × IsWord w × (view_of w ≡ v)
unfolding view_of
word-for v f = (word_of v, omega (arith, f.joined, f.left), λ i. record { joined = low i; left = high i })
  where
    low : word_of v % 4294967296 ≡ v.joined
    low = omega (arith, f.joined)

    high : word_of v / 4294967296 % 4294967296 ≡ v.left
    high = omega (arith, f.joined, f.left)

module _ (W ids : List ℕ) (init : ℕ) (K R : List ℕ) (choice_count agreement_count : ℕ) (M : List Verdict) (tables : Tables W (record_in W ids) init K R choice_count agreement_count) (verdicts : Verdicts W (record_in W ids) init K R choice_count agreement_count M) where
  abbrev X : List Stmt
  X = record_in W ids

  -- a number below n that has p
  some_of : (p : ℕ → Bool) (n : ℕ) → T (any p (up_to n)) → (i : ℕ) × (i < n) × T (p i)
  some_of p n t =
      let (i, m, h) = (says_any (λ i. says-self (p i)) (up_to n)).sound t in
      let (j, l, e) = list_of-out n (λ i. i) m in
      (i, omega arith, h)

  of_some : (p : ℕ → Bool) (n i : ℕ) → i < n → T (p i) → T (any p (up_to n))
  of_some p n i l h = (says_any (λ i. says-self (p i)) (up_to n)).complete (i, list_of-in n (λ i. i) i l, h)

  -- a candidate is the view of a word
  word-of : {v : View} → Candidate (ring_of_word init) X v → (v ≡ view_of init) ⊎ ((w : ℕ) × IsWord w × (view_of w ≡ v))
  word-of (initial e) = inl e
  word-of (chosen g b n i q) =
      let (_, (s, m, _, a)) = someone q in
      let (w, l, e) = word-for s.view (record-fits W ids (get_or ids 512 0) s m) in
      inr (w, l, e ∙ a.view)

  says-gives : (w c : ℕ) → Says (gives W X init K R w c) ((key_at K 0 c ≡ w) × T (is_top (ring_of_word init) X (choice_at W R c).at))
  unfolding gives
  says-gives w c = says-and says-eqb (says-self (is_top (ring_of_word init) X (choice_at W R c).at))

  pub choices-marked : MarkedChoices init X K M choice_count
  choices-marked = record {
    sound = λ c l e. (says-shown (ring_of_word init) X (candidate (view_of (key_at K 0 c)))).sound (subst T (verdicts.candidate c l) (from-true e));
    complete = λ v k. elim (word-of k) [ inl e ↦ inl e | inr (w, l, e) ↦ go v k w l e ];
    fits = record-fits W ids (get_or ids 512 0);
  }
    where
      go : (v : View) → Candidate (ring_of_word init) X v → (w : ℕ) → IsWord w → view_of w ≡ v
          → (v ≡ view_of init) ⊎ ((c : ℕ) × (c < choice_count) × (choice_mark M c ≡ true) × (view_of (key_at K 0 c) ≡ v))
      go v k w l e =
          let shown : (u : View) → u ≡ v → T (is_candidate (ring_of_word init) X u) = λ u q. subst (λ u. T (is_candidate (ring_of_word init) X u)) (sym q) ((says-shown (ring_of_word init) X (candidate v)).complete k) in
          elim ((says-or (says-eqb {m = w} {n = init}) (says-self (any (gives W X init K R w) (up_to choice_count)))).sound (subst T (tables.candidates w l) (shown (view_of w) e))) [
            | inl q ↦ inl (sym e ∙ ap view_of q)
            | inr t ↦ (let (c, h, g) = some_of (gives W X init K R w) choice_count t in
                let is : view_of (key_at K 0 c) ≡ v = ap view_of ((says-gives w c).sound g).0 ∙ e in
                inr (c, h, is_true _ (subst T (sym (verdicts.candidate c h)) (shown _ is)), is))
          ]

  says-seals : (H : List View) (a : ℕ) → Says (seals_as W X init K R H a) (((agreement_at W R a).views ≡ H) × T (seals_at W X init K R a))
  unfolding seals_as
  says-seals H a = says-and (says-sames (agreement_at W R a).views H) (says-self (seals_at W X init K R a))

  says-listed : (H : List View) → Says (same_views H (view_of init ∷ []) || any (seals_as W X init K R H) (up_to agreement_count)) ((H ≡ view_of init ∷ []) ⊎ T (any (seals_as W X init K R H) (up_to agreement_count)))
  says-listed H = says-or (says-sames H (view_of init ∷ [])) (says-self (any (seals_as W X init K R H) (up_to agreement_count)))

  pub agreements-marked : MarkedAgreements init X W R (seal_mark M) agreement_count
  agreements-marked = record {
    sound = λ a l e.
        let H = (agreement_at W R a).views in
        (says-shown (ring_of_word init) X (sealed H)).sound (subst T (sym (tables.histories H))
        ((says-listed H).complete (inr (of_some (seals_as W X init K R H) agreement_count a l ((says-seals H a).complete (refl, subst T (verdicts.sealed a l) (from-true e)))))));
    complete = λ H k.
        elim ((says-listed H).sound (subst T (tables.histories H) ((says-shown (ring_of_word init) X (sealed H)).complete k))) [
          | inl e ↦ inl e
          | inr t ↦ (let (a, l, g) = some_of (seals_as W X init K R H) agreement_count t in
              let (e, h) = (says-seals H a).sound g in
              inr (a, l, is_true _ (subst T (sym (verdicts.sealed a l)) h), e))
        ];
  }

-- ---- the whole

none : (a b c : Bool) → (a || b || c) ≡ false → (a ≡ false) × (b ≡ false) × (c ≡ false)
none true b c e = absurd (subst T e tt)
none false true c e = absurd (subst T e tt)
none false false c e = (refl, refl, e)

conflict-of : (init : ℕ) (senders : List ℕ) (X : List Stmt) {a b c : Bool} → a ≡ not (pairwise (comparable 16) (candidates (ring_of_word init) X))
    → b ≡ not (pairwise (λ H K. holds H K || holds K H) (sealed_histories (ring_of_word init) X)) → c ≡ not (every (length senders) (λ i. pairwise eqb (certificates (ring_of_word init) senders X i)))
    → (a || b || c) ≡ is_conflict (ring_of_word init) senders X
unfolding is_conflict
conflict-of init senders X e f g = ap₂ (λ x y. x || y) (ap₂ ◌||◌ e f) g

pub tied : (wish : ℕ) (r : Ranked) (h : Summit) (c : Certified) (stored backed : ℕ) (b : Bool) → b ≡ (r.conflict || h.conflict || c.conflict)
    → (init : ℕ) (senders : List ℕ) (X : List Stmt) (C G P : List ℕ) → length senders ≤ 64 → view_of wish ≡ wished (ring_of_word init) X → CandidatesOf init X C r → HistoriesOf init X G h
    → CertificatesOf init senders X P c → StoredOf init X c.some P stored
    → EvidenceOf (ring_of_word init) senders X C G P (record {
      conflict = b;
      many = r.many;
      backed = backed;
      wished = wish;
      count = r.count;
      length = h.length;
      skipped = h.skipped;
      certified = c.some;
      stored = stored;
    })
tied wish r h c stored backed b e init senders X C G P most w p q s t = record {
  wished = w;
  conflict = is;
  many = λ f. p.many (parts f).0;
  candidates = λ f. p.views (parts f).0;
  greatest = λ f.
      let (g, k) = greatest-holds (ring_of_word init) senders X (subst (λ b. T (not b)) (sym f ∙ is) tt) in
      let z = (parts f).1 in
      held_same init X (q.sealed z) g (q.holds z (greatest (ring_of_word init) X) g) (k (views_of G h.length) (q.sealed z));
  certificate = λ f. s.certificate (parts f).2;
  stored = λ f i l. t.are i (omega arith);
  within = s.within;
  skipped = λ f. q.skipped (parts f).1;
}
  where
    is : b ≡ is_conflict (ring_of_word init) senders X
    is = e ∙ conflict-of init senders X p.conflict q.conflict s.conflict

    parts : b ≡ false → (r.conflict ≡ false) × (h.conflict ≡ false) × (c.conflict ≡ false)
    parts f = none r.conflict h.conflict c.conflict (sym e ∙ f)
