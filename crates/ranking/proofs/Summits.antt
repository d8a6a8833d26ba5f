-- The histories in the slots are the sealed ones.
-- Assumes nothing.
use mathlib.Core.Path.{◌≡◌, refl, sym, ap, ap₂, subst, ◌∙◌}
use mathlib.Core.Logic.{◌⊎◌, inl, inr}
use mathlib.Core.Bool.{Bool, true, false, not, ◌||◌}
use mathlib.Core.List.Memᴰ
use mathlib.Core.List.{List, [], ◌∷◌, ◌++◌}
use Prim.Native.Nat.{ℕ, ◌+◌, ◌≤◌, ◌<◌}
use native.Mathlib.Decide.{dec_lt}
use native.Mathlib.Numerals.{add-one}
use native.Mathlib.Omega.{arith}
use borrow.Author.Tests.{eqb-true, eq-eqb}
use lib.Dec.{T}
use lib.ListN as list
use lib.ListN.{length, get_or, set}
use Rattle.protocol.specs.Sets.{bit}
use Rattle.protocol.specs.Lists.{◌∈◌, ◌⊆◌, any, list_of}
use Rattle.protocol.specs.View.{View, same_view, size, Below}
use Rattle.protocol.specs.History.{holds, top, Holds, Rising}
use Rattle.protocol.specs.Statement.{Stmt}
use Rattle.protocol.specs.Evidence.{Sealed, start, agreed, sealed_histories, passes_over, is_skipped, Skipped}
use Rattle.protocol.proofs.Bits.{bit-zero}
use Rattle.protocol.proofs.Says.{Says, says_map, says-unique, says-or, says_any}
use Rattle.protocol.proofs.Decided.{says-in}
use Rattle.protocol.proofs.Asked.{says_holds, says-pairwise, sealed-in, sealed-out, says-passes, says-skipped}
use Rattle.protocol.proofs.Different.{Different, ordered-map, different-length}
use Rattle.protocol.proofs.Histories.{top_in, start-in}
use Rattle.protocol.proofs.Numbered.{list_of-length}
use Rattle.views.specs.View.{view_of, ring_of_word, views_of}
use Rattle.views.proofs.Tables.{views-count}
use Rattle.views.proofs.Views.{passes, fails}
use Rattle.pool.specs.Pool.{count_of, view_at, stmt_at}
use Rattle.pool.proofs.Laws.{views-of}
use Rattle.ranking.specs.Slots.{history_scale, start_scale, number_in, seal_byte, Starts, Stands, Slots, Clash, occupied, Broken, Chain}
use Rattle.ranking.specs.Ranking.{Unmarked, ChainOf, PassedOf, SkippedOf, MarkedAgreements, MarkedBytes, HistoriesOf}
use Rattle.ranking.proofs.Members.{Climbs, list_of-in, same-members}
use Rattle.ranking.proofs.Slots.{views-put, occupied-in, occupied-out, occupied-wide}
use Rattle.ranking.proofs.Skips.{starts-same, unpassed}

-- ---- lengths

pub views-length : (W : List ℕ) (n c : ℕ) → c ≡ count_of W n → c ≡ length (stmt_at W n).views
views-length W n c e = sym (list_of-length c (view_at W n)) ∙ ap length (views-of W n c e)

pub views-short : (W : List ℕ) (n : ℕ) → length (stmt_at W n).views < 17
unfolding count_of
views-short W n = omega (arith, views-length W n (count_of W n) refl)

-- ---- copying

pub copy-first : (out : List ℕ) (f : ℕ → View) → views_of out 0 ≡ list_of 0 f
unfolding views_of list_of
copy-first out f = refl

pub copy_more : (out : List ℕ) (p v : ℕ) (f : ℕ → View) → p < length out → views_of out p ≡ list_of p f → view_of v ≡ f p → views_of (set out p v) (p + 1) ≡ list_of (p + 1) f
unfolding list_of
copy_more out p v f l e g = rw add-one (views-put out p v l ∙ ap₂ (λ l x. l ++ (x ∷ [])) e g)

pub copied-short : (W out : List ℕ) (n c : ℕ) → views_of out c ≡ (stmt_at W n).views → c ≤ 16
copied-short W out n c e = omega (arith, views-count out c, ap length e, views-short W n)

pub views-in : (out : List ℕ) (n i : ℕ) → i < n → view_of (get_or out i 0) ∈ views_of out n
unfolding views_of
views-in out n i l = list_of-in n (λ i. view_of (get_or out i 0)) i l

-- ---- a chain of histories

pub same-held : (H : List View) → Holds H H
same-held H v m = m

pub held-trans : (K H G : List View) → Holds H K → Holds G H → Holds G K
held-trans K H G p q v m = q v (p v m)

pub links_end : (W S : List ℕ) (k last : ℕ) (some steady : Bool) → k ≡ 17 → Chain (history_scale W) S k some last → (steady ≡ true → Chain (start_scale W) S k some last) → ChainOf W S steady last
links_end W S k last some steady e c d = record {
  chain = (some, subst (λ k. Chain (history_scale W) S k some last) e c);
  starts = λ h. (some, subst (λ k. Chain (start_scale W) S k some last) e (d h));
}

-- the history of the initial view
pub alone-views : (out : List ℕ) (init : ℕ) → length out ≡ 16 → views_of (set out 0 init) 1 ≡ view_of init ∷ []
unfolding views_of list_of
alone-views out init l = views-put out 0 init (omega arith)

-- ---- sealed histories rise

rising-climbs : (w : ℕ) (u : View) (H : List View) → Rising w u H → Climbs (size w) (u ∷ H)
rising-climbs w u [] r = (λ v m. absurd (Memᴰ.not-nil m), tt)
rising-climbs w u (x ∷ H) (b, r) =
    let (f, c) = rising-climbs w x H r in
    (λ v m. elim (Memᴰ.cases_cons m) [ inl e ↦ omega (arith, b.less, ap (size w) e) | inr i ↦ omega (arith, b.less, f v i) ], (f, c))

different : (w : ℕ) (H : List View) → Climbs (size w) H → Different H
different w H c = ordered-map (λ a b l e. omega (arith, ap (size w) e)) H c

-- different views of H, as many as H has, are all of them
full : (K H : List View) → Different K → K ⊆ H → length H ≤ length K → H ⊆ K
full K H d s l v m = go (any (same_view v) K) refl
  where
    go : (b : Bool) → any (same_view v) K ≡ b → v ∈ K
    go true e = says-in.sound (subst T (sym e) tt)
    go false e = absurd (omega (
      arith,
      different-length (v ∷ K) H ((λ u i q. subst T e ((says-in {v = v}).complete (subst (λ x. x ∈ K) (sym q) i))), d)
          (λ u i. elim (Memᴰ.cases_cons i) [ inl q ↦ subst (λ x. x ∈ H) (sym q) m | inr j ↦ s u j ]),
    ))

module _ (init : ℕ) (X : List Stmt) where
  sealed-climbs : {H : List View} → Sealed (ring_of_word init) X H → Climbs (size 16) H
  sealed-climbs (start e) = subst (Climbs (size 16)) (sym e) (rising-climbs 16 (view_of init) [] tt)
  sealed-climbs (agreed g h i n c q) = subst (Climbs (size 16)) (sym h.begins) (rising-climbs 16 (view_of init) h.rest h.rising)

  -- two that hold each other are one
  pub held_same : {H K : List View} → Sealed (ring_of_word init) X H → Sealed (ring_of_word init) X K → Holds H K → Holds K H → H ≡ K
  held_same {H} {K} h k p q = same-members (size 16) H K (sealed-climbs h) (sealed-climbs k) q p

  -- so are two of one length of which one holds the other

  held-shorter : {H K : List View} → Sealed (ring_of_word init) X K → Holds H K → length K ≤ length H
  held-shorter {H} {K} k p = different-length K H (different 16 K (sealed-climbs k)) p

  held-level : {H K : List View} → Sealed (ring_of_word init) X H → Sealed (ring_of_word init) X K → length H ≡ length K → Holds H K → H ≡ K
  held-level {H} {K} h k e p = held_same h k p (full K H (different 16 K (sealed-climbs k)) p (omega arith))

  says-held : (H K : List View) → Says (holds H K || holds K H) (Holds H K ⊎ Holds K H)
  says-held H K = says-or (says_holds H K) (says_holds K H)

  -- each starts with that of the initial view
  starts-init : {H : List View} → Sealed (ring_of_word init) X H → Starts H (view_of init ∷ [])
  starts-init (start e) = record { rest = []; is = e }
  starts-init (agreed g h i n c q) = record { rest = h.rest; is = h.begins }

  -- two sealed ones are apart
  conflict : {H K : List View} → Sealed (ring_of_word init) X H → Sealed (ring_of_word init) X K → (Holds H K → ⊥) → (Holds K H → ⊥) → (length skipped : ℕ) (out : List ℕ)
      → HistoriesOf init X out (record { conflict = true; length = length; skipped = skipped })
  conflict {H} {K} h k p q length skipped out = record {
    conflict = ap not (sym (fails (says-pairwise says-held (sealed_histories (ring_of_word init) X))
        (λ f. elim (f H (sealed-in (ring_of_word init) X h) K (sealed-in (ring_of_word init) X k)) [ inl a ↦ p a | inr a ↦ q a ])));
    sealed = λ e. absurd (subst T e tt);
    holds = λ e. absurd (subst T e tt);
    skipped = λ e. absurd (subst T e tt);
  }

  -- G is sealed and holds all, every two are compared, and `skipped` is the set of what is skipped
  greatest : (length skipped : ℕ) (out : List ℕ) → Sealed (ring_of_word init) X (views_of out length) → ((K : List View) → Sealed (ring_of_word init) X K → Holds (views_of out length) K)
      → ((H : List View) → Sealed (ring_of_word init) X H → (K : List View) → Sealed (ring_of_word init) X K → Holds H K ⊎ Holds K H)
      → ((u : View) → u ∈ views_of out length → (i : ℕ) → i < length → view_of (get_or out i 0) ≡ u → bit skipped i ≡ is_skipped (ring_of_word init) X u)
      → HistoriesOf init X out (record { conflict = false; length = length; skipped = skipped })
  greatest length skipped out g f p z = record {
    conflict = ap not (sym (passes (says-pairwise says-held (sealed_histories (ring_of_word init) X)) (λ H i K j. p H (sealed-out (ring_of_word init) X i) K (sealed-out (ring_of_word init) X j))));
    sealed = λ e. g;
    holds = λ e. f;
    skipped = λ e i l. z (view_of (get_or out i 0)) (views-in out length i l) i l refl;
  }

  -- what is skipped of G: nothing, where it starts with every other; else what some history passes over
  module _ {G : List View} (g : Sealed (ring_of_word init) X G) where
    over : {H : List View} → Sealed (ring_of_word init) X H → Starts G H → (u : View) → u ∈ G → (u ∈ H → ⊥) → Below 16 u (top (ring_of_word init) H) → ⊥
    over {H} h s u m n b = unpassed 16 (top (ring_of_word init) H) u (sealed-climbs g) s (top_in h) m n b.less

    none-skipped : ((H : List View) → Sealed (ring_of_word init) X H → Starts G H) → (u : View) → u ∈ G → is_skipped (ring_of_word init) X u ≡ false
    none-skipped s u m = fails (says-skipped (ring_of_word init) X u) (λ k. over k.sealed (s k.history k.sealed) u m k.lacks k.greater)

    skipped-by : (histories : List (List View)) → ((H : List View) → H ∈ histories → Sealed (ring_of_word init) X H) → ((H : List View) → Sealed (ring_of_word init) X H → Starts G H ⊎ (H ∈ histories))
        → (u : View) → u ∈ G → any (passes_over (ring_of_word init) u) histories ≡ is_skipped (ring_of_word init) X u
    skipped-by histories out into u m =
        says-unique (says_map to from (says_any (says-passes (ring_of_word init) X u) histories)) (says-skipped (ring_of_word init) X u)
      where
        to : (H : List View) × (H ∈ histories) × ((u ∈ H → ⊥) × Below 16 u (top (ring_of_word init) H)) → Skipped (ring_of_word init) X u
        to (H, i, (n, b)) = record { history = H; sealed = out H i; lacks = n; greater = b }

        from : Skipped (ring_of_word init) X u → (H : List View) × (H ∈ histories) × ((u ∈ H → ⊥) × Below 16 u (top (ring_of_word init) H))
        from k = elim (into k.history k.sealed) [
          | inl s ↦ absurd (over k.sealed s u m k.lacks k.greater)
          | inr i ↦ (k.history, i, (k.lacks, k.greater))
        ]

  -- ---- the agreements that are marked

  pub bytes-marked : (W R M : List ℕ) (n : ℕ) → MarkedBytes init X W R M n → MarkedAgreements init X W R (seal_byte M) n
  bytes-marked W R M n marked = record {
    sound = λ a l e. marked.sound a l (eqb-true _ _ e);
    complete = λ H h. elim (marked.complete H h) [ inl e ↦ inl e | inr (a, l, m, e) ↦ inr (a, l, eq-eqb _ _ m, e) ];
  }

  module _ (W R : List ℕ) (M : ℕ → Bool) (n : ℕ) (agreements : MarkedAgreements init X W R M n) where
    -- none is marked
    pub alone : (out : List ℕ) → length out ≡ 16 → Unmarked M n → HistoriesOf init X (set out 0 init) (record { conflict = false; length = 1; skipped = 0 })
    alone out w f =
        let g : Sealed (ring_of_word init) X (views_of (set out 0 init) 1) = start (alone-views out init w) in
        greatest 1 0 (set out 0 init) g (λ K k. start-in (only K k) g) (λ H h K k. inr (start-in (only H h) k))
        (λ u m i l q. bit-zero i ∙ sym (none-skipped g (λ H h. subst (Starts (views_of (set out 0 init) 1)) (sym (only H h)) (starts-init g)) u m))
      where
        only : (K : List View) → Sealed (ring_of_word init) X K → K ≡ view_of init ∷ []
        only K k = elim (agreements.complete K k) [ inl q ↦ q | inr (a, l, m, _) ↦ absurd (f.none a l m) ]

    module _ (a base : ℕ) (l : a < n) (m : M a ≡ true) (is : base ≡ number_in R a) where
      stands-sealed : (w : ℕ) → Stands (history_scale W) base (number_in R) M n w → Sealed (ring_of_word init) X (stmt_at W w).views
      stands-sealed w (inl e) = subst (λ x. Sealed (ring_of_word init) X (stmt_at W x).views) (sym (e ∙ is)) (agreements.sound a l m)
      stands-sealed w (inr (c, h, k, e)) = subst (λ x. Sealed (ring_of_word init) X (stmt_at W x).views) e (agreements.sound c h k)

      pub clash-conflict : Clash (history_scale W) base (number_in R) M n → (length skipped : ℕ) (out : List ℕ) → HistoriesOf init X out (record { conflict = true; length = length; skipped = skipped })
      clash-conflict k =
          let h = stands-sealed k.one k.stands in
          let g = stands-sealed k.other k.besides in
          conflict h g (λ p. k.differ (held-level h g k.level p)) (λ p. k.differ (sym (held-level g h (sym k.level) p)))

      module _ (S : List ℕ) (slots : Slots (history_scale W) base (number_in R) M n S) where
        abbrev shown : List (List View)
        shown = occupied (history_scale W) S 17

        slot-sealed : {H : List View} → H ∈ shown → Sealed (ring_of_word init) X H
        slot-sealed i = let (j, h, e, f) = occupied-out (history_scale W) S 17 i in subst (Sealed (ring_of_word init) X) f (stands-sealed (get_or S j 0) (slots.sound j h))

        word : (w : ℕ) → Stands (history_scale W) base (number_in R) M n w → (stmt_at W w).views ∈ shown
        word w s =
            let e = slots.complete w s in
            subst (λ H. H ∈ shown) e (occupied-in (history_scale W) S 17 (length (stmt_at W w).views) (views-short W w) (ap length e))

        in-slots : (H : List View) → Sealed (ring_of_word init) X H → (H ≡ view_of init ∷ []) ⊎ (H ∈ shown)
        in-slots H h = elim (agreements.complete H h) [ inl e ↦ inl e | inr (c, i, k, e) ↦ inr (subst (λ H. H ∈ shown) e (word (number_in R c) (inr (c, i, k, refl)))) ]

        pub broken-conflict : Broken (history_scale W) S 17 → (length skipped : ℕ) (out : List ℕ) → HistoriesOf init X out (record { conflict = true; length = length; skipped = skipped })
        broken-conflict b =
            let h = slot-sealed b.lower_in in
            let k = slot-sealed b.upper_in in
            conflict h k (λ p. omega (arith, held-shorter k p, b.less)) b.apart

        module _ (some : Bool) (last : ℕ) (c : Chain (history_scale W) S 17 some last) (length : ℕ) (out : List ℕ) (e : views_of out length ≡ (stmt_at W last).views) where
          sealed : Sealed (ring_of_word init) X (views_of out length)
          sealed = subst (Sealed (ring_of_word init) X) (sym e) (slot-sealed (c.ends (c.under _ (word base (inl refl))).0))

          holds-each : (K : List View) → Sealed (ring_of_word init) X K → Holds (views_of out length) K
          holds-each K k = elim (in-slots K k) [ inl q ↦ start-in q sealed | inr i ↦ subst (λ H. Holds H K) (sym e) (c.under K i).1 ]

          pairs : (H : List View) → Sealed (ring_of_word init) X H → (K : List View) → Sealed (ring_of_word init) X K → Holds H K ⊎ Holds K H
          pairs H h K k = elim (in-slots H h) [
            | inl q ↦ inr (start-in q k)
            | inr i ↦ elim (in-slots K k) [ inl q ↦ inl (start-in q h) | inr j ↦ elim (c.pairs H i K j) [ inl p ↦ inr p | inr p ↦ inl p ] ]
          ]

          -- each starts with the one before, so that nothing is skipped
          summit-steady : (also : Bool) → Chain (start_scale W) S 17 also last → HistoriesOf init X out (record { conflict = false; length = length; skipped = 0 })
          summit-steady also d = greatest length 0 out sealed holds-each pairs (λ u m i l q. bit-zero i ∙ sym (none-skipped sealed starts u m))
            where
              starts : (H : List View) → Sealed (ring_of_word init) X H → Starts (views_of out length) H
              starts H h = elim (in-slots H h) [
                | inl q ↦ subst (Starts (views_of out length)) (sym q) (starts-init sealed)
                | inr i ↦ (let (j, l, s, f) = occupied-out (history_scale W) S 17 i in
                    subst (λ G. Starts G H) (sym e) (d.under H (subst (λ H. H ∈ occupied (start_scale W) S 17) f (occupied-in (start_scale W) S 17 j l s))).1)
              ]

          -- those in the slots of fewer views are all but the greatest
          abbrev shorter : List (List View)
          shorter = occupied (history_scale W) S length

          shorter-sealed : (H : List View) → H ∈ shorter → Sealed (ring_of_word init) X H
          shorter-sealed H i = slot-sealed (occupied-wide (history_scale W) S length 17 (omega (arith, copied-short W out last length e)) H i)

          in-shorter : (H : List View) → Sealed (ring_of_word init) X H → Starts (views_of out length) H ⊎ (H ∈ shorter)
          in-shorter H h = elim (in-slots H h) [
            | inl q ↦ inl (subst (Starts (views_of out length)) (sym q) (starts-init sealed))
            | inr i ↦ (let (j, _, s, f) = occupied-out (history_scale W) S 17 i in elim (dec_lt j length) [
              | yes l ↦ inr (subst (λ H. H ∈ shorter) f (occupied-in (history_scale W) S length j l s))
              | no l ↦ inl (subst (λ K. Starts K H) (sym (held-level sealed h (omega (arith, held-shorter h (holds-each H h), views-count out length, s, ap list.length f)) (holds-each H h))) (starts-same H))
            ])
          ]

          summit : (r : ℕ) → PassedOf (ring_of_word init) shorter out length r → HistoriesOf init X out (record { conflict = false; length = length; skipped = r })
          summit r p = greatest length r out sealed holds-each pairs
              (λ u m i l q. p.bits i l ∙ ap (λ u. any (passes_over (ring_of_word init) u) shorter) q ∙ skipped-by sealed shorter shorter-sealed in-shorter u m)

          pub summit-either : (steady : Bool) (r : ℕ) → SkippedOf (ring_of_word init) shorter out length steady r → (steady ≡ true → (also : Bool) × Chain (start_scale W) S 17 also last)
              → HistoriesOf init X out (record { conflict = false; length = length; skipped = r })
          summit-either true r p d =
              let (also, k) = d refl in
              subst (λ r. HistoriesOf init X out (record { conflict = false; length = length; skipped = r })) (sym (p.none refl)) (summit-steady also k)
          summit-either false r p d = summit r (p.some refl)
