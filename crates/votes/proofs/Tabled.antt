-- The tables are right: what the choices and agreements of a record show.
-- Assumes nothing.
use mathlib.Core.Path.{◌≡◌, refl, sym, ap, subst, ◌∙◌}
use mathlib.Core.Logic.{◌⊎◌, inl, inr}
use mathlib.Core.Bool.{Bool, not, ◌||◌}
use mathlib.Core.List.{List, [], ◌∷◌}
use Prim.Native.Nat.{ℕ, zero, suc, ◌≤◌, ◌<◌, min}
use native.Mathlib.Decide.{dec_lt}
use native.Mathlib.Omega.{arith}
use lib.Dec.{T, eqb}
use lib.ListN.{get_or}
use Rattle.protocol.specs.Lists.{◌∈◌, any, all, list_of}
use Rattle.protocol.specs.View.{View, Ring, same_view, has_members, within, below, size, Below}
use Rattle.protocol.specs.History.{last, top, is_history, History}
use Rattle.protocol.specs.Statement.{Stmt, is_kind, agrees_view, agrees_history}
use Rattle.protocol.specs.Evidence.{sealed, start, wished, signed_by_quorum, is_candidate, is_sealed}
use Rattle.protocol.specs.Grounds.{is_top, chooses, seals, candidate_by, sealed_by}
use Rattle.protocol.proofs.Says.{Says, says_map, says-unique, says-self, says-and, says-or, says-not, says-eqb}
use Rattle.protocol.proofs.Histories.{rises}
use Rattle.protocol.proofs.Decided.{says_same, says-sames, says-in, says-below, says-history, says-kind, says-shown}
use Rattle.protocol.proofs.Grounds.{Top, says-top, candidate-by, sealed-by}
use Rattle.views.specs.View.{view_of, view_in, ring_of_word}
use Rattle.views.proofs.Tables.{any-suc}
use Rattle.views.proofs.Views.{view-inj, view-whole}
use Rattle.pool.specs.Pool.{stmt_at, record_up_to, record_len, record_in}
use Rattle.pool.proofs.Laws.{view-fits}
use Rattle.tables.specs.Index.{key_at}
use Rattle.views.specs.Tally.{place_in}
use Rattle.votes.specs.Votes.{is_vote, entry, vote_at, GroupsIn}
use Rattle.votes.specs.Tables.{IsWord, up_to, choice_at, agreement_at, gives, seals_at, ends, seals_as, Tables}
use Rattle.votes.specs.Chosen.{is_choice, is_agreement, Choices, Agreements}
use Rattle.votes.proofs.Alike.{Alike, says-vote, says-alike}

-- ---- tests of lists by index

module _ {A : Type 0} {p : A → Bool} {P : A → Type 0} (says : (a : A) → Says (p a) (P a)) (f : ℕ → A) where
  pub says-list_of : (n : ℕ) → Says (any p (list_of n f)) ((i : ℕ) × (i < n) × P (f i))
  unfolding list_of any
  says-list_of zero = record { sound = λ t. absurd t; complete = λ (i, l, h). absurd (omega arith) }
  says-list_of (suc n) = rw (any-suc p f n) (says_map join split (says-or (says-list_of n) (says (f n))))
    where
      join : ((i : ℕ) × (i < n) × P (f i)) ⊎ P (f n) → (i : ℕ) × (i < suc n) × P (f i)
      join (inl (i, l, h)) = (i, omega arith, h)
      join (inr h) = (n, omega arith, h)

      split : (i : ℕ) × (i < suc n) × P (f i) → ((i : ℕ) × (i < n) × P (f i)) ⊎ P (f n)
      split (i, l, h) = elim (dec_lt i n) [ yes m ↦ inl (i, m, h) | no m ↦ inr (let q : i ≡ n = omega arith in subst (λ x. P (f x)) q h) ]

pub says-record : {p : Stmt → Bool} {P : Stmt → Type 0} → ((s : Stmt) → Says (p s) (P s)) → (W ids : List ℕ) (len : ℕ) → Says (any p (record_up_to W ids len)) ((i : ℕ) × (i < min len 512) × P (entry W ids i))
unfolding record_up_to
says-record says W ids len = says-list_of says (λ i. stmt_at W (get_or ids i 0)) (min len 512)

-- ---- the parts of a choice and of an agreement

module _ (R : Ring) (X : List Stmt) where
  -- s chooses x
  abbrev Choice : Stmt → View → Type 0
  Choice s x = ((((s.kind ≡ 3) × T (signed_by_quorum 16 X s.at (agrees_view s.at x))) × T (below 16 s.at x)) × T (has_members 16 x)) × T (within 16 x (wished R X))

  says-choice : (s : Stmt) (x : View) → s.view ≡ x → Says (is_choice R X s) (Choice s x)
  unfolding is_choice is_kind
  says-choice s x e = rw e
      (says-and (says-and (says-and (says-and (says-kind 3 s) (says-self (signed_by_quorum 16 X s.at (agrees_view s.at x)))) (says-self (below 16 s.at x))) (says-self (has_members 16 x)))
      (says-self (within 16 x (wished R X))))

  choice-like : (a s : Stmt) → Alike a s → T (is_choice R X s) → T (is_choice R X a)
  choice-like a s al t =
      let ((((k, q), b), m), w) = (says-choice s s.view refl).sound t in
      (says-choice a s.view (sym (al.view (sym al.kind ∙ k)))).complete
      ((((sym al.kind ∙ k, rw (sym al.at) q), rw (sym al.at) b), m), w)

  -- s agrees to H
  abbrev Agreement : Stmt → List View → Type 0
  Agreement s H = ((((s.kind ≡ 4) × T (signed_by_quorum 16 X s.at (agrees_history s.at H))) × T (any (same_view s.at) H)) × T (not (same_view s.at (top R H)))) × T (is_history R H)

  says-agreement : (s : Stmt) (H : List View) → s.views ≡ H → Says (is_agreement R X s) (Agreement s H)
  unfolding is_agreement is_kind
  says-agreement s H e = rw e
      (says-and (says-and (says-and (says-and (says-kind 4 s) (says-self (signed_by_quorum 16 X s.at (agrees_history s.at H)))) (says-self (any (same_view s.at) H)))
      (says-self (not (same_view s.at (top R H))))) (says-self (is_history R H)))

  agreement-like : (a s : Stmt) → Alike a s → T (is_agreement R X s) → T (is_agreement R X a)
  agreement-like a s al t =
      let ((((k, q), m), d), h) = (says-agreement s s.views refl).sound t in
      (says-agreement a s.views (sym (al.views (sym al.kind ∙ k)))).complete
      ((((sym al.kind ∙ k, rw (sym al.at) q), rw (sym al.at) m), rw (sym al.at) d), h)

-- a view of a history is its top, or lies below it
history-top : {R : Ring} {H : List View} {v : View} → History R H → v ∈ H → (v ≡ top R H) ⊎ Below R.width v (top R H)
unfolding top
history-top h m = rw h.begins (rises h.rest h.rising (rw h.begins at m))

module _ (W ids : List ℕ) (init : ℕ) (G : List ℕ) (n : ℕ) (groups : GroupsIn W ids G n) where
  abbrev X : List Stmt
  X = record_in W ids

  -- entry i is in a group
  covered : (i : ℕ) → i < record_len ids → T (is_vote (entry W ids i)) → (g : ℕ) × (g < n) × Alike (vote_at W ids G g) (entry W ids i)
  covered i l v = let (g, m, t) = groups.covers i l v in (g, m, (says-alike (vote_at W ids G g) (entry W ids i)).sound t)

  -- ---- choices

  module _ (K R : List ℕ) (choice_count : ℕ) (rows : Choices W ids init G n K R choice_count) where
    -- row c is the choice of entry i
    record Chose (c i : ℕ) : Type 0 where
      here : i < record_len ids
      at : (choice_at W R c).at ≡ (entry W ids i).at
      view : view_of (key_at K 0 c) ≡ (entry W ids i).view
      small : IsWord (key_at K 0 c)
      choice : T (is_choice (ring_of_word init) X (entry W ids i))

    row-chose : (c : ℕ) → c < choice_count → (i : ℕ) × Chose c i
    row-chose c l = let (g, m, t, w) = rows.picked.sound c l in (place_in (get_or G g 0), record { here = groups.place g m; at = ap (λ z. (stmt_at W z).at) w.statement; view = w.view; small = w.word; choice = t })

    chose_row : (i : ℕ) → i < record_len ids → T (is_choice (ring_of_word init) X (entry W ids i)) → (c : ℕ) × (c < choice_count) × Chose c i
    chose_row i l t =
        let ((((k, _), _), _), _) = (says-choice (ring_of_word init) X (entry W ids i) (entry W ids i).view refl).sound t in
        let (g, m, al) = covered i l ((says-vote (entry W ids i)).complete (inl (inl (inl k)))) in
        let (c, o, w) = rows.picked.complete g m (choice-like (ring_of_word init) X (vote_at W ids G g) (entry W ids i) al t) in
        (c, o, record { here = l; at = ap (λ z. (stmt_at W z).at) w.statement ∙ sym al.at; view = w.view ∙ sym (al.view (sym al.kind ∙ k)); small = w.word; choice = t })

    -- choice c gives the candidate v
    abbrev Given : ℕ → Type 0
    Given v = (c : ℕ) × (c < choice_count) × ((key_at K 0 c ≡ v) × T (is_top (ring_of_word init) X (choice_at W R c).at))

    abbrev Shows : View → Type 0
    Shows v = (T (has_members 16 v) × T (within 16 v (wished (ring_of_word init) X)))
        × ((i : ℕ) × (i < record_len ids)
        × ((((((entry W ids i).kind ≡ 3) × ((entry W ids i).view ≡ v)) × T (below 16 (entry W ids i).at v))
        × T (signed_by_quorum 16 X (entry W ids i).at (agrees_view (entry W ids i).at v))) × T (is_top (ring_of_word init) X (entry W ids i).at)))

    says-given : (v : ℕ) → Says (any (gives W X init K R v) (up_to choice_count)) (Given v)
    unfolding gives
    says-given v = says-list_of (λ c. says-and says-eqb (says-self (is_top (ring_of_word init) X (choice_at W R c).at))) (λ i. i) choice_count

    says-candidate : (v : View) → Says (is_candidate (ring_of_word init) X v) ((v ≡ view_of init) ⊎ Shows v)
    unfolding candidate_by chooses
    says-candidate v = rw (candidate-by (ring_of_word init) X v)
        (says-or says_same (says-and (says-and (says-self (has_members 16 v)) (says-self (within 16 v (wished (ring_of_word init) X))))
        (says-record (λ s. says-and (says-and (says-and (says-and (says-kind 3 s) says_same) (says-self (below 16 s.at v))) (says-self (signed_by_quorum 16 X s.at (agrees_view s.at v)))) (says-self (is_top (ring_of_word init) X s.at))) W ids (get_or ids 512 0))))

    candidates : IsWord init → (v : ℕ) → IsWord v → is_candidate (ring_of_word init) X (view_of v) ≡ (eqb v init || any (gives W X init K R v) (up_to choice_count))
    candidates small v l = says-unique (says_map to from (says-candidate (view_of v))) (says-or says-eqb (says-given v))
      where
        to : (view_of v ≡ view_of init) ⊎ Shows (view_of v) → (v ≡ init) ⊎ Given v
        to (inl e) = inl (view-inj v init l small e)
        to (inr ((m, w), (i, h, ((((k, e), b), q), t)))) =
            let (c, o, r) = chose_row i h ((says-choice (ring_of_word init) X (entry W ids i) (view_of v) e).complete ((((k, q), b), m), w)) in
            inr (c, o, (view-inj (key_at K 0 c) v r.small l (r.view ∙ e), rw r.at t))

        from : (v ≡ init) ⊎ Given v → (view_of v ≡ view_of init) ⊎ Shows (view_of v)
        from (inl e) = inl (ap view_of e)
        from (inr (c, o, (e, t))) =
            let (i, r) = row-chose c o in
            let f : (entry W ids i).view ≡ view_of v = sym r.view ∙ ap view_of e in
            let ((((k, q), b), m), w) = (says-choice (ring_of_word init) X (entry W ids i) (view_of v) f).sound r.choice in
            inr ((m, w), (i, r.here, ((((k, f), b), q), rw r.at at t)))

    choices-narrow : (c : ℕ) → c < choice_count → view_in (key_at K 0 c) ≡ view_of (key_at K 0 c)
    choices-narrow c l = let (i, r) = row-chose c l in view-whole (key_at K 0 c) r.view (view-fits W (get_or ids i 0)) ∙ sym r.view

    choices-rise : (c : ℕ) → c < choice_count → size 16 (choice_at W R c).at < size 16 (view_of (key_at K 0 c))
    choices-rise c l =
        let (i, r) = row-chose c l in
        let ((((k, q), b), m), w) = (says-choice (ring_of_word init) X (entry W ids i) (entry W ids i).view refl).sound r.choice in
        omega (arith, (says-below.sound b).less, ap (size 16) r.at, ap (size 16) r.view)

  -- ---- agreements

  module _ (K R : List ℕ) (agreement_count : ℕ) (rows : Agreements W ids init G n K R agreement_count) where
    -- row a is the agreement of entry i
    record Agrees (a i : ℕ) : Type 0 where
      here : i < record_len ids
      at : (agreement_at W R a).at ≡ (entry W ids i).at
      top : view_of (key_at K 1 a) ≡ top (ring_of_word init) (entry W ids i).views
      small : IsWord (key_at K 1 a)
      names : (agreement_at W R a).views ≡ (entry W ids i).views
      agreement : T (is_agreement (ring_of_word init) X (entry W ids i))

    row-agrees : (a : ℕ) → a < agreement_count → (i : ℕ) × Agrees a i
    row-agrees a l =
        let (g, m, t, w) = rows.picked.sound a l in
        (place_in (get_or G g 0), record { here = groups.place g m; at = ap (λ z. (stmt_at W z).at) w.statement; top = w.view; small = w.word; names = ap (λ z. (stmt_at W z).views) w.statement; agreement = t })

    agrees-row : (i : ℕ) → i < record_len ids → T (is_agreement (ring_of_word init) X (entry W ids i)) → (a : ℕ) × (a < agreement_count) × Agrees a i
    agrees-row i l t =
        let ((((k, _), _), _), _) = (says-agreement (ring_of_word init) X (entry W ids i) (entry W ids i).views refl).sound t in
        let (g, m, al) = covered i l ((says-vote (entry W ids i)).complete (inl (inl (inr k)))) in
        let (a, o, w) = rows.picked.complete g m (agreement-like (ring_of_word init) X (vote_at W ids G g) (entry W ids i) al t) in
        let e : (entry W ids i).views ≡ (vote_at W ids G g).views = al.views (sym al.kind ∙ k) in
        (a, o, record { here = l; at = ap (λ z. (stmt_at W z).at) w.statement ∙ sym al.at; top = w.view ∙ ap (top (ring_of_word init)) (sym e); small = w.word; names = ap (λ z. (stmt_at W z).views) w.statement ∙ sym e; agreement = t })

    -- an agreement seals H
    abbrev SealedAt : ℕ → Type 0
    SealedAt a = T (is_top (ring_of_word init) X (agreement_at W R a).at) × T (all (is_candidate (ring_of_word init) X) (agreement_at W R a).views)

    says-seals : (a : ℕ) → Says (seals_at W X init K R a) (SealedAt a)
    unfolding seals_at
    says-seals a = says-and (says-self (is_top (ring_of_word init) X (agreement_at W R a).at)) (says-self (all (is_candidate (ring_of_word init) X) (agreement_at W R a).views))

    abbrev Sealing : List View → Type 0
    Sealing H = (a : ℕ) × (a < agreement_count) × (((agreement_at W R a).views ≡ H) × SealedAt a)

    says-sealing : (H : List View) → Says (any (seals_as W X init K R H) (up_to agreement_count)) (Sealing H)
    unfolding seals_as
    says-sealing H = says-list_of (λ a. says-and (says-sames (agreement_at W R a).views H) (says-seals a)) (λ i. i) agreement_count

    abbrev Ending : ℕ → Type 0
    Ending t = (a : ℕ) × (a < agreement_count) × ((key_at K 1 a ≡ t) × SealedAt a)

    says-ending : (t : ℕ) → Says (any (ends W X init K R t) (up_to agreement_count)) (Ending t)
    unfolding ends
    says-ending t = says-list_of (λ a. says-and says-eqb (says-seals a)) (λ i. i) agreement_count

    abbrev Seals : List View → Type 0
    Seals H = (T (is_history (ring_of_word init) H) × T (all (is_candidate (ring_of_word init) X) H))
        × ((i : ℕ) × (i < record_len ids)
        × (((((((entry W ids i).kind ≡ 4) × ((entry W ids i).views ≡ H)) × T (any (same_view (entry W ids i).at) H)) × T (not (same_view (entry W ids i).at (top (ring_of_word init) H))))
        × T (signed_by_quorum 16 X (entry W ids i).at (agrees_history (entry W ids i).at H))) × T (is_top (ring_of_word init) X (entry W ids i).at)))

    says-sealed : (H : List View) → Says (is_sealed (ring_of_word init) X H) ((H ≡ view_of init ∷ []) ⊎ Seals H)
    unfolding sealed_by seals
    says-sealed H = rw (sealed-by (ring_of_word init) X H)
        (says-or (says-sames H (view_of init ∷ [])) (says-and (says-and (says-self (is_history (ring_of_word init) H)) (says-self (all (is_candidate (ring_of_word init) X) H)))
        (says-record (λ s. says-and (says-and (says-and (says-and (says-and (says-kind 4 s) (says-sames s.views H)) (says-self (any (same_view s.at) H))) (says-self (not (same_view s.at (top (ring_of_word init) H))))) (says-self (signed_by_quorum 16 X s.at (agrees_history s.at H)))) (says-self (is_top (ring_of_word init) X s.at))) W ids (get_or ids 512 0))))

    says-histories : (H : List View) → Says (is_sealed (ring_of_word init) X H) ((H ≡ view_of init ∷ []) ⊎ Sealing H)
    says-histories H = says_map to from (says-sealed H)
      where
        to : (H ≡ view_of init ∷ []) ⊎ Seals H → (H ≡ view_of init ∷ []) ⊎ Sealing H
        to (inl e) = inl e
        to (inr ((h, c), (i, l, (((((k, e), m), d), q), t)))) =
            let (a, o, r) = agrees-row i l ((says-agreement (ring_of_word init) X (entry W ids i) H e).complete ((((k, q), m), d), h)) in
            inr (a, o, (r.names ∙ e, (rw r.at t, rw (r.names ∙ e) c)))

        from : (H ≡ view_of init ∷ []) ⊎ Sealing H → (H ≡ view_of init ∷ []) ⊎ Seals H
        from (inl e) = inl e
        from (inr (a, o, (e, (t, c)))) =
            let (i, r) = row-agrees a o in
            let f : (entry W ids i).views ≡ H = sym r.names ∙ e in
            let ((((k, q), m), d), h) = (says-agreement (ring_of_word init) X (entry W ids i) H f).sound r.agreement in
            inr ((h, rw e at c), (i, r.here, (((((k, f), m), d), q), rw r.at at t)))

    top_start : top (ring_of_word init) (view_of init ∷ []) ≡ view_of init
    unfolding top last
    top_start = refl

    tops : IsWord init → (t : ℕ) → IsWord t → is_top (ring_of_word init) X (view_of t) ≡ (eqb t init || any (ends W X init K R t) (up_to agreement_count))
    tops small t l = says-unique (says_map to from (says-top (ring_of_word init) X (view_of t))) (says-or says-eqb (says-ending t))
      where
        end : (G : List View) → top (ring_of_word init) G ≡ view_of t → (G ≡ view_of init ∷ []) ⊎ Sealing G → (t ≡ init) ⊎ Ending t
        end G e (inl f) = inl (view-inj t init l small (sym e ∙ ap (top (ring_of_word init)) f ∙ top_start))
        end G e (inr (a, o, (f, s))) =
            let (i, r) = row-agrees a o in
            inr (a, o, (view-inj (key_at K 1 a) t r.small l (r.top ∙ ap (top (ring_of_word init)) (sym r.names ∙ f) ∙ e), s))

        to : Top (ring_of_word init) X (view_of t) → (t ≡ init) ⊎ Ending t
        to (G, g, e) = end G e ((says-histories G).sound ((says-shown (ring_of_word init) X (sealed G)).complete g))

        from : (t ≡ init) ⊎ Ending t → Top (ring_of_word init) X (view_of t)
        from (inl e) = (view_of init ∷ [], start refl, top_start ∙ ap view_of (sym e))
        from (inr (a, o, (e, s))) =
            let (i, r) = row-agrees a o in
            ((agreement_at W R a).views, (says-shown (ring_of_word init) X (sealed (agreement_at W R a).views)).sound ((says-histories (agreement_at W R a).views).complete (inr (a, o, (refl, s)))), ap (top (ring_of_word init)) r.names ∙ sym r.top ∙ ap view_of e)

    -- what a row says of the order of its views
    ordered : (a : ℕ) → a < agreement_count → (v : View) → v ∈ (agreement_at W R a).views → (v ≡ view_of (key_at K 1 a)) ⊎ Below 16 v (view_of (key_at K 1 a))
    ordered a l v m =
        let (i, r) = row-agrees a l in
        let (_, h) = (says-agreement (ring_of_word init) X (entry W ids i) (entry W ids i).views refl).sound r.agreement in
        rw r.top (history-top ((says-history (ring_of_word init) (entry W ids i).views).sound h) (rw r.names at m))

    agreements-climb : (a : ℕ) → a < agreement_count → size 16 (agreement_at W R a).at < size 16 (view_of (key_at K 1 a))
    agreements-climb a l =
        let (i, r) = row-agrees a l in
        let ((((k, q), m), d), h) = (says-agreement (ring_of_word init) X (entry W ids i) (entry W ids i).views refl).sound r.agreement in
        elim (ordered a l (entry W ids i).at (rw r.names (says-in.sound m))) [
          | inl e ↦ absurd ((says-not says_same).sound d (e ∙ r.top))
          | inr b ↦ omega (arith, b.less, ap (size 16) r.at)
        ]

    agreements-within : (a : ℕ) → a < agreement_count → (v : View) → v ∈ (agreement_at W R a).views → size 16 v ≤ size 16 (view_of (key_at K 1 a))
    agreements-within a l v m = elim (ordered a l v m) [ inl e ↦ omega (arith, ap (size 16) e) | inr b ↦ omega (arith, b.less) ]

  pub tables-are : (K R : List ℕ) (choice_count agreement_count : ℕ) → IsWord init → Choices W ids init G n K R choice_count → Agreements W ids init G n K R agreement_count → Tables W (record_in W ids) init K R choice_count agreement_count
  tables-are K R choice_count agreement_count small choices agreements = record {
    chosen = choices.index;
    agreed = agreements.index;
    candidates = candidates K R choice_count choices small;
    tops = tops K R agreement_count agreements small;
    histories = λ H. says-unique (says-histories K R agreement_count agreements H) (says-or (says-sames H (view_of init ∷ [])) (says-sealing K R agreement_count agreements H));
    narrow = choices-narrow K R choice_count choices;
    rises = choices-rise K R choice_count choices;
    climbs = agreements-climb K R agreement_count agreements;
    within = agreements-within K R agreement_count agreements;
  }
