-- After how many statements a certificate was complete: the least that the groups of its acks tell.
-- Assumes nothing.
use mathlib.Core.Path.{◌≡◌, refl, sym, ap, ap₂, subst, ◌∙◌}
use mathlib.Core.Logic.{inl, inr}
use mathlib.Core.Bool.{Bool, true, false, not}
use mathlib.Core.List.Memᴰ
use mathlib.Core.List.{List, [], ◌∷◌}
use mathlib.Core.Option.{Option, some, none}
use Rattle.std.specs.declared.option.Option as maybe
use Rattle.std.specs.Prelude.{Some, None, unwrap_or}
use Prim.Native.Nat.{ℕ, zero, suc, ◌+◌, ◌≤◌, ◌<◌, min}
use native.Mathlib.Decide.{ℕ_discrete, dec_lt}
use native.Mathlib.Omega.{arith}
use lib.Dec.{T}
use lib.ListN.{length, get_or, take}
use Rattle.protocol.specs.Lists.{◌∈◌, when, otherwise, first_some, least}
use Rattle.protocol.specs.View.{View, Ring}
use Rattle.protocol.specs.History.{top}
use Rattle.protocol.specs.Statement.{Stmt, payload_of, acks, Ack, Signed}
use Rattle.protocol.specs.Evidence.{sealed, Shown, Quorum, named, signed_by_quorum, at_sealed_top}
use Rattle.protocol.specs.Count.{complete_after}
use Rattle.protocol.proofs.Says.{Says, from-true, says_map, says-unique, says-self, says-and, says_any, says-eqb}
use Rattle.protocol.proofs.Decided.{says-kind, says-acks, says-backed, says-shown, listed}
use Rattle.protocol.proofs.Monotone.{signed-mono}
use Rattle.protocol.proofs.Quorums.{someone}
use Rattle.protocol.proofs.Count.{stops}
use Rattle.views.specs.View.{ring_of_word}
use Rattle.views.specs.Tally.{place_in}
use Rattle.views.proofs.Views.{fails}
use Rattle.pool.specs.Pool.{record_up_to}
use Rattle.votes.specs.Votes.{alike, entry, vote_at}
use Rattle.votes.proofs.Alike.{Alike, says-alike}
use Rattle.evidence.specs.Shown.{is_backed, Backed}
use Rattle.evidence.specs.Casts.{cast_for}
use Rattle.evidence.proofs.Acked.{placed}
use Rattle.evidence.proofs.Backing.{Cast, signed-map, quorum-cast, says-backed-by}

-- ---- the least number

module _ (p : ℕ → Bool) where
  abbrev numbered : ℕ → Option ℕ
  numbered k = when (p k) k

  least-none : (m : ℕ) → ((k : ℕ) → k < m → p k ≡ false) → least m numbered ≡ none
  unfolding least first_some
  least-none zero f = refl
  least-none (suc m) f = ap₂ (λ a b. first_some (a ∷ b ∷ [])) (least-none m (λ k l. f k (omega arith))) (ap (λ b. when b m) (f m (omega arith)))

  least-is : (m n : ℕ) → n < m → p n ≡ true → ((k : ℕ) → k < n → p k ≡ false) → least m numbered ≡ some n
  unfolding least first_some
  least-is zero n l t f = absurd (omega arith)
  least-is (suc m) n l t f = elim (ℕ_discrete n m) [
    | yes e ↦ ap₂ (λ a b. first_some (a ∷ b ∷ [])) (least-none m (λ k h. f k (omega arith))) (ap (λ k. when (p k) k) (sym e) ∙ ap (λ b. when b n) t)
    | no d ↦ ap (λ a. first_some (a ∷ numbered m ∷ [])) (least-is m n (omega arith) t f)
  ]

take_in : {A : Type 0} (k : ℕ) (l : List A) (a : A) → a ∈ take k l → a ∈ l
take_in zero l a h = absurd (Memᴰ.not-nil h)
take_in (suc k) [] a h = h
take_in (suc k) (x ∷ l) a h = elim (Memᴰ.cases_cons h) [ inl e ↦ Memᴰ.head e | inr t ↦ Memᴰ.tail (take_in k l a t) ]

is_true : {b : Bool} → T b → b ≡ true
is_true {b = true} t = refl
is_true {b = false} t = elim t [ ]

-- ---- the groups

module _ (W ids : List ℕ) (len init : ℕ) (G : List ℕ) (n : ℕ) (backed : Backed W ids len init G n) (i m : ℕ) where
  abbrev X : List Stmt
  X = record_up_to W ids len

  abbrev R : Ring
  R = ring_of_word init

  abbrev vote : ℕ → Stmt
  vote h = vote_at W ids G h

  abbrev read : ℕ → ℕ
  read h = place_in (get_or G h 0) + 1

  says-acks-it : (s : Stmt) → Says (cast_for 7 i m s) (((s.kind ≡ 7) × (s.notice ≡ i)) × (payload_of s ≡ m))
  unfolding cast_for
  says-acks-it s = says-and (says-and (says-kind 7 s) says-eqb) says-eqb

  -- what is like such an ack is an ack at its view
  alike-acks : (s : Stmt) → T (cast_for 7 i m s) → alike s ≡ acks s.at i m
  alike-acks s t j x = says-unique (says_map to from (says-alike s x)) says-acks j
    where
      parts : ((s.kind ≡ 7) × (s.notice ≡ i)) × (payload_of s ≡ m)
      parts = (says-acks-it s).sound t

      to : Alike s x → Ack s.at i m x
      to al = record { kind = al.kind ∙ parts.0.0; at = al.at; notice = al.notice (omega (arith, parts.0.0)) ∙ parts.0.1; payload = al.acked parts.0.0 ∙ parts.1 }

      from : Ack s.at i m x → Alike s x
      from d = record {
        vote = inl (inr parts.0.0);
        kind = d.kind ∙ sym parts.0.0;
        at = d.at;
        view = λ q. absurd (omega (arith, q, parts.0.0));
        views = λ q. absurd (omega (arith, q, parts.0.0));
        notice = λ q. d.notice ∙ sym parts.0.1;
        acked = λ q. d.payload ∙ sym parts.1;
        stored = λ q. absurd (omega (arith, q, parts.0.0));
      }

  -- of the first k statements a quorum of a sealed top acked it
  abbrev by : ℕ → Bool
  by k = at_sealed_top R X (λ t. signed_by_quorum 16 (take k X) t (acks t i m))

  says-by : (k : ℕ) → Says (by k) ((H : List View) × Shown R X (sealed H) × T (signed_by_quorum 16 (take k X) (top R H) (acks (top R H) i m)))
  says-by k = says_map (λ (H, _, (h, q)). (H, h, q)) (λ (H, h, q). (H, listed R X h, (h, q)))
      (says_any (λ H. says-and (says-shown R X (sealed H)) (says-self (signed_by_quorum 16 (take k X) (top R H) (acks (top R H) i m)))) (named R X))

  -- then a group tells no more
  back : (k : ℕ) → T (by k) → (h : ℕ) × (h < n) × T (cast_for 7 i m (vote h)) × (read h ≤ k)
  back k t =
      let (H, g, q) = (says-by k).sound t in
      let Q : Quorum 16 (top R H) (Signed X (Ack (top R H) i m)) = signed-mono (take_in k X) ((says-backed (λ s. says-acks)).sound q) in
      let cast : Quorum 16 (top R H) (Signed X (Cast init X 7 (top R H) i m)) = signed-map init X (λ s a. record { kind = a.kind; at = a.at; notice = a.notice; payload = a.payload }) Q in
      let (_, (s, p, _, c)) = someone cast in
      let (j, l, e) = placed W ids len p in
      let (h, u, al) = backed.covers j l (subst (λ s. T (is_backed init X s)) (sym e) (quorum-cast init X 7 i m s (inl refl) g cast c)) in
      let a : Alike (vote h) (entry W ids j) = (says-alike _ _).sound al in
      let seven : (vote h).kind ≡ 7 = sym a.kind ∙ ap (λ s. s.kind) e ∙ c.kind in
      let it = (says-acks-it (vote h)).complete ((seven, sym (a.notice (omega (arith, seven))) ∙ ap (λ s. s.notice) e ∙ c.notice), sym (a.acked seven) ∙ ap (λ s. payload_of s) e ∙ c.payload) in
      (h, u, it, no_more h u it (sym a.at ∙ ap (λ s. s.at) e ∙ c.at) q)
    where
      no_more : (h : ℕ) → h < n → T (cast_for 7 i m (vote h)) → {t : View} → (vote h).at ≡ t → T (signed_by_quorum 16 (take k X) t (acks t i m)) → read h ≤ k
      no_more h u it {t} at q = elim (dec_lt k (read h)) [
        | yes l ↦ absurd (both (signed_by_quorum 16 (take k X) (vote h).at (alike (vote h)))
            (subst (λ p. T (signed_by_quorum 16 (take k X) (vote h).at p)) (sym (alike-acks (vote h) it)) (subst (λ t. T (signed_by_quorum 16 (take k X) t (acks t i m))) (sym at) q))
            ((stops 16 (vote h).at (alike (vote h)) X).before k (subst (λ c. k < c.read) (sym (backed.read h u)) l)))
        | no d ↦ omega arith
      ]
        where
          both : (b : Bool) → T b → T (not b) → ⊥
          both true y z = z
          both false y z = elim y [ ]

  -- a group tells as many as there have to be
  forth : (h : ℕ) → h < n → T (cast_for 7 i m (vote h)) → T (by (read h)) × (read h ≤ length X)
  forth h l it =
      let (_, (H, g, e)) = (says-backed-by init X (vote h)).sound (backed.sound h l) in
      let stop = stops 16 (vote h).at (alike (vote h)) X in
      let q = subst (λ c. T (signed_by_quorum 16 (take c.read X) (vote h).at (alike (vote h)))) (backed.read h l) (stop.up_to (subst (λ c. T c.reached) (sym (backed.read h l)) tt)) in
      let q' = subst (λ p. T (signed_by_quorum 16 (take (read h) X) (vote h).at p)) (alike-acks (vote h) it) q in
      ((says-by (read h)).complete (H, g, subst (λ t. T (signed_by_quorum 16 (take (read h) X) t (acks t i m))) (sym e) q'), subst (λ c. c.read ≤ length X) (backed.read h l) stop.within)

  -- ---- the loop: o is the least place that those before g tell, if one does

  pub record LeastTo (g : ℕ) (o : maybe.Option ℕ) : Type 0 where
    pub some : (f : ℕ) → o ≡ Some f → (h : ℕ) × (h < g) × T (cast_for 7 i m (vote h)) × (f + 1 ≡ read h)
    pub least : (h : ℕ) → h < g → T (cast_for 7 i m (vote h)) → (f : ℕ) × (o ≡ Some f) × (f + 1 ≤ read h)

  pub least_first : LeastTo 0 None
  least_first = record { some = λ f e. absurd (cc); least = λ h l. absurd (omega arith) }

  module _ {g : ℕ} {o : maybe.Option ℕ} (w : LeastTo g o) (f : ℕ) (p : f ≡ place_in (get_or G g 0)) (b : Bool) (asked : b ≡ cast_for 7 i m (entry W ids f)) where
    here : b ≡ cast_for 7 i m (vote g)
    here = asked ∙ ap (λ j. cast_for 7 i m (entry W ids j)) p

    pub least_skip : b ≡ false → LeastTo (g + 1) o
    least_skip e = record {
      some = λ k q. let (h, l, t, y) = w.some k q in (h, omega arith, t, y);
      least = λ h l t. elim (ℕ_discrete h g) [ yes q ↦ absurd (subst T (sym here ∙ e) (subst (λ h. T (cast_for 7 i m (vote h))) q t)) | no d ↦ w.least h (omega arith) t ];
    }

    module _ (e : b ≡ true) where
      mine : (h : ℕ) × (h < g + 1) × T (cast_for 7 i m (vote h)) × (f + 1 ≡ read h)
      mine = (g, omega arith, from-true (sym here ∙ e), ap (λ x. x + 1) p)

      -- k is the least of those before g and of the new one
      taken : (k : ℕ) → ((h : ℕ) × (h < g + 1) × T (cast_for 7 i m (vote h)) × (k + 1 ≡ read h)) → k ≤ f → ((h : ℕ) → h < g → T (cast_for 7 i m (vote h)) → k + 1 ≤ read h) → LeastTo (g + 1) (Some k)
      taken k who most rest = record {
        some = λ f' q. let same : k ≡ f' = cc in subst (λ k. (h : ℕ) × (h < g + 1) × T (cast_for 7 i m (vote h)) × (k + 1 ≡ read h)) same who;
        least = λ h l t. (k, refl, elim (ℕ_discrete h g) [ yes y ↦ subst (λ h. k + 1 ≤ read h) (sym y) (omega (arith, most, p)) | no d ↦ rest h (omega arith) t ]);
      }

      pub least-start : o ≡ None → LeastTo (g + 1) (Some f)
      least-start z = taken f mine (omega arith) (λ h l t. let (k, q, _) = w.least h l t in absurd (cc))

      pub least-old : (k : ℕ) → o ≡ Some k → k ≤ f → LeastTo (g + 1) (Some k)
      least-old k z le = taken k (let (h, l, t, y) = w.some k z in (h, omega arith, t, y)) le (λ h l t. let (k', q, y) = w.least h l t in let same : k' ≡ k = cc in omega arith)

      pub least-new : (k : ℕ) → o ≡ Some k → f ≤ k → LeastTo (g + 1) (Some f)
      least-new k z le = taken f mine (omega arith) (λ h l t. let (k', q, y) = w.least h l t in let same : k' ≡ k = cc in omega arith)

      pub least-take : (r : ℕ) → r ≡ min (unwrap_or o f) f → LeastTo (g + 1) (Some r)
      least-take r is = go o refl is
        where
          go : (c : maybe.Option ℕ) → o ≡ c → r ≡ min (unwrap_or c f) f → LeastTo (g + 1) (Some r)
          go None z q = let same : f ≡ r = omega (arith, q) in subst (λ r. LeastTo (g + 1) (Some r)) same (least-start z)
          go (Some k) z q = elim (dec_lt k f) [
            | yes l ↦ (let same : k ≡ r = omega (arith, q) in subst (λ r. LeastTo (g + 1) (Some r)) same (least-old k z (omega arith)))
            | no l ↦ (let same : f ≡ r = omega (arith, q) in subst (λ r. LeastTo (g + 1) (Some r)) same (least-new k z (omega arith)))
          ]

  pub complete-none : (g : ℕ) → g ≡ n → LeastTo g None → 0 ≡ complete_after R X i m
  unfolding complete_after
  complete-none g e w = sym (ap (λ o. otherwise o 0) (least-none by (suc (length X)) (λ k l. fails (says-self (by k)) (λ t. let (h, u, it, _) = back k t in let (_, q, _) = w.least h (omega arith) it in absurd (cc)))))

  pub complete-some : (g f : ℕ) → g ≡ n → LeastTo g (Some f) → (f + 1 ≡ complete_after R X i m) × (f < 512)
  unfolding complete_after
  complete-some g f e w =
      let (h, u, it, q) = w.some f refl in
      let (t, y) = forth h (omega arith) it in (
        sym (ap (λ o. otherwise o 0) (least-is by (suc (length X)) (f + 1) (omega (arith, q, y)) (is_true (subst (λ k. T (by k)) (sym q) t)) (λ k l. fails (says-self (by k)) (λ t. (let (h', u', it', o) = back k t in let (f', q', y') = w.least h' (omega arith) it' in let same : f ≡ f' = cc in omega arith))))),
        omega (arith, q, backed.place h (omega arith)),
      )
