-- The least sealed top of which a quorum acked or stored a payload, from the groups of acks and stores by quorums of sealed tops; and who signed there.
-- Assumes nothing.
use Rattle.std.specs.Prelude.{if◌then◌else◌}
use mathlib.Core.Path.{◌≡◌, refl, sym, ap, ap₂, subst, ◌∙◌}
use mathlib.Core.Logic.{inl, inr}
use mathlib.Core.Bool.{Bool, true, false, ◌&&◌}
use mathlib.Core.List.{List}
use mathlib.Core.Option.{Option, some, none}
use Prim.Native.Nat.{ℕ, ◌+◌, ◌≤◌, ◌<◌}
use native.Mathlib.Decide.{ℕ_discrete}
use native.Mathlib.Omega.{arith}
use lib.Dec.{T}
use lib.ListN.{length, get_or}
use borrow.Author.Tests.{lt-ltb, le-ltb}
use Rattle.protocol.specs.View.{View, Ring}
use Rattle.protocol.specs.History.{top}
use Rattle.protocol.specs.Statement.{Stmt, payload_of, acks, stores, Signed}
use Rattle.protocol.specs.Evidence.{sealed, Shown, Quorum, signed_by_quorum, is_prepared}
use Rattle.protocol.specs.Signers.{written_before, lesser, least_top, set_at, signers, set_behind, store_set, ack_set}
use Rattle.protocol.proofs.Says.{Says, from-true, says_map, says-and, says-eqb}
use Rattle.protocol.proofs.Found.{some-injective, none≢some}
use Rattle.protocol.proofs.Decided.{says-kind, says_same, says-backed}
use Rattle.protocol.proofs.Quorums.{someone}
use Rattle.protocol.proofs.Signers.{AtMost, at-most-self, at-most-on, before-most, not-before, says-before, top-is, top-none}
use Rattle.views.specs.View.{view_of, ring_of_word}
use Rattle.views.specs.Tally.{place_in}
use Rattle.pool.specs.Pool.{record_up_to}
use Rattle.votes.specs.Votes.{entry, vote_at}
use Rattle.votes.specs.Question.{asks}
use Rattle.votes.proofs.Alike.{Alike, says-alike}
use Rattle.evidence.specs.Shown.{is_backed, Backed}
use Rattle.evidence.specs.Casts.{Late, cast_for, cast_at}
use Rattle.evidence.proofs.Acked.{placed}
use Rattle.evidence.proofs.Backing.{Cast, cast-of, signed-map, says-backed-by, quorum-cast}

-- ---- kinds

pub late-not : {k : ℕ} → Late k → k ≡ 5 → ⊥
late-not (inl e) q = omega arith
late-not (inr e) q = omega arith

-- what is asked of such votes
pub asks-cast : (k i at m n : ℕ) (H : List ℕ) → Late k → asks (record { kind = k; notice = i; at = at; what = m; length = n }) H ≡ cast_at k (view_of at) i m
unfolding asks cast_at acks stores
asks-cast k i at m n H (inl e) = rw e
asks-cast k i at m n H (inr e) = rw e

-- ---- the groups

module _ (W ids : List ℕ) (len init : ℕ) (G : List ℕ) (n : ℕ) (backed : Backed W ids len init G n) (k : ℕ) (late : Late k) (i m : ℕ) where
  abbrev X : List Stmt
  X = record_up_to W ids len

  abbrev R : Ring
  R = ring_of_word init

  abbrev vote : ℕ → Stmt
  vote h = vote_at W ids G h

  says-cast-for : (s : Stmt) → Says (cast_for k i m s) (((s.kind ≡ k) × (s.notice ≡ i)) × (payload_of s ≡ m))
  unfolding cast_for
  says-cast-for s = says-and (says-and (says-kind k s) says-eqb) says-eqb

  says-cast-at : (t : View) (s : Stmt) → Says (cast_at k t i m s) (Cast init X k t i m s)
  unfolding cast_at
  says-cast-at t s = says_map
      (λ (((a, b), c), d). record { kind = a; at = b; notice = c; payload = d }) (λ c. (((c.kind, c.at), c.notice), c.payload))
      (says-and (says-and (says-and says-eqb says_same) says-eqb) says-eqb)

  -- a quorum of t signed such votes
  abbrev has : View → Bool
  has t = signed_by_quorum 16 X t (cast_at k t i m)

  -- then a group has them
  back : (H : List View) → Shown R X (sealed H) → T (has (top R H)) → (h : ℕ) × (h < n) × T (cast_for k i m (vote h)) × ((vote h).at ≡ top R H)
  back H g q =
      let cast : Quorum 16 (top R H) (Signed X (Cast init X k (top R H) i m)) = (says-backed (says-cast-at (top R H))).sound q in
      let (_, (s, p, _, c)) = someone cast in
      let (j, l, e) = placed W ids len p in
      let (h, u, al) = backed.covers j l (subst (λ s. T (is_backed init X s)) (sym e) (quorum-cast init X k i m s late g cast c)) in
      let a : Alike (vote h) (entry W ids j) = (says-alike _ _).sound al in
      let such : (vote h).kind ≡ k = sym a.kind ∙ ap (λ s. s.kind) e ∙ c.kind in
      let d : Cast init X k (vote h).at (vote h).notice (payload_of (vote h)) (entry W ids j) = cast-of init X k late such a in (
        h,
        u,
        (says-cast-for (vote h)).complete ((such, sym d.notice ∙ ap (λ s. s.notice) e ∙ c.notice), sym d.payload ∙ ap (λ s. payload_of s) e ∙ c.payload),
        sym d.at ∙ ap (λ s. s.at) e ∙ c.at,
      )

  -- and a group of them stands at such a top
  forth : (h : ℕ) → h < n → T (cast_for k i m (vote h)) → (H : List View) × Shown R X (sealed H) × T (has (top R H)) × (top R H ≡ (vote h).at)
  forth h l it =
      let ((such, e), f) = (says-cast-for (vote h)).sound it in
      let ((_, q), (H, g, at)) = (says-backed-by init X (vote h)).sound (backed.sound h l) in
      let c : Quorum 16 (vote h).at (Signed X (Cast init X k (vote h).at (vote h).notice (payload_of (vote h)))) = signed-map init X (λ x. cast-of init X k late such) q in
      let d : Quorum 16 (vote h).at (Signed X (Cast init X k (vote h).at i m)) =
      subst (λ m. Quorum 16 (vote h).at (Signed X (Cast init X k (vote h).at i m))) f (subst (λ i. Quorum 16 (vote h).at (Signed X (Cast init X k (vote h).at i (payload_of (vote h))))) e c)
      in
      (H, g, (says-backed (says-cast-at (top R H))).complete (subst (λ t. Quorum 16 t (Signed X (Cast init X k t i m))) (sym at) d), at)

  -- ---- the loop: o is the least top of those before g

  pub record TopTo (g : ℕ) (o : Option View) : Type 0 where
    pub found : (t : View) → o ≡ some t → (h : ℕ) × (h < g) × T (cast_for k i m (vote h)) × ((vote h).at ≡ t)
    pub least : (h : ℕ) → h < g → T (cast_for k i m (vote h)) → (t : View) × (o ≡ some t) × AtMost t (vote h).at

  pub top-first : TopTo 0 none
  top-first = record { found = λ t e. absurd (none≢some e); least = λ h l. absurd (omega arith) }

  module _ {g : ℕ} {o : Option View} (w : TopTo g o) (f : ℕ) (p : f ≡ place_in (get_or G g 0)) (b : Bool) (asked : b ≡ cast_for k i m (entry W ids f)) where
    here : b ≡ cast_for k i m (vote g)
    here = asked ∙ ap (λ j. cast_for k i m (entry W ids j)) p

    pub top-skip : b ≡ false → TopTo (g + 1) o
    top-skip e = record {
      found = λ t q. let (h, l, it, at) = w.found t q in (h, omega arith, it, at);
      least = λ h l it. elim (ℕ_discrete h g) [ yes q ↦ absurd (subst T (sym here ∙ e) (subst (λ h. T (cast_for k i m (vote h))) q it)) | no d ↦ w.least h (omega arith) it ];
    }

    module _ (x : ℕ) (e : b ≡ true) (at : view_of x ≡ (entry W ids f).at) where
      new : (vote g).at ≡ view_of x
      new = sym (at ∙ ap (λ j. (entry W ids j).at) p)

      such : T (cast_for k i m (vote g))
      such = from-true (sym here ∙ e)

      -- t is the least of those before g and of the new one
      taken : (t : View) → ((h : ℕ) × (h < g + 1) × T (cast_for k i m (vote h)) × ((vote h).at ≡ t)) → AtMost t (view_of x) → ((h : ℕ) → h < g → T (cast_for k i m (vote h)) → AtMost t (vote h).at)
          → TopTo (g + 1) (some t)
      taken t who most rest = record {
        found = λ u q. let (h, l, it, y) = who in (h, l, it, y ∙ some-injective q);
        least = λ h l it. (t, refl, elim (ℕ_discrete h g) [ yes q ↦ subst (AtMost t) (sym (ap (λ h. (vote h).at) q ∙ new)) most | no d ↦ rest h (omega arith) it ]);
      }

      pub top-take : (o' : Option View) → o' ≡ some (lesser (view_of x) o) → TopTo (g + 1) o'
      top-take o' is = subst (TopTo (g + 1)) (sym is) (go o refl)
        where
          mine : (h : ℕ) × (h < g + 1) × T (cast_for k i m (vote h)) × ((vote h).at ≡ view_of x)
          mine = (g, omega arith, such, new)

          pick : (u : View) → o ≡ some u → (c : Bool) → written_before u (view_of x) ≡ c → TopTo (g + 1) (some (if c then u else view_of x))
          pick u y true z =
              taken u (let (h, l, it, q) = w.found u y in (h, omega arith, it, q)) (before-most ((says-before u (view_of x)).sound (from-true z)))
              (λ h l it. let (t, q, a) = w.least h l it in subst (λ t. AtMost t (vote h).at) (some-injective (sym q ∙ y)) a)
          pick u y false z =
              let most : AtMost (view_of x) u = not-before u (view_of x) (λ d. subst T z ((says-before u (view_of x)).complete d)) in
              taken (view_of x) mine (at-most-self (view_of x)) (λ h l it. let (t, q, a) = w.least h l it in at-most-on most (subst (λ t. AtMost t (vote h).at) (some-injective (sym q ∙ y)) a))

          go : (c : Option View) → o ≡ c → TopTo (g + 1) (some (lesser (view_of x) c))
          go none y = taken (view_of x) mine (at-most-self (view_of x)) (λ h l it. let (t, q, _) = w.least h l it in absurd (none≢some (sym y ∙ q)))
          go (some u) y = pick u y (written_before u (view_of x)) refl

  pub top-found : (g : ℕ) (o : Option View) → g ≡ n → TopTo g o → o ≡ least_top R X has
  top-found g none e w = sym (top-none R X has (λ K s q. let (h, u, it, _) = back K s q in let (t, y, _) = w.least h (omega arith) it in none≢some y))
  top-found g (some t) e w =
      let (h, u, it, y) = w.found t refl in
      let (H, s, q, at) = forth h (omega arith) it in
      let same : top R H ≡ t = at ∙ y in
      ap some (sym same) ∙ sym (top-is R X has H s q (λ K s' q'.
      let (h', u', it', y') = back K s' q' in
      let (t', z, a) = w.least h' (omega arith) it' in
      subst (AtMost (top R H)) y' (subst (λ t. AtMost t (vote h').at) (sym (some-injective z) ∙ sym same) a)))

-- ---- who signed there

module _ (R : Ring) (X : List Stmt) (k i m : ℕ) (width : R.width ≡ 16) (o : Option View) (is : o ≡ least_top R X (λ t. signed_by_quorum 16 X t (cast_at k t i m))) where
  abbrev behind : Option View → ℕ
  behind o = set_at o (λ t. signers 16 X t (cast_at k t i m))

  whole : set_behind R X (λ t. cast_at k t i m) ≡ behind o
  unfolding set_behind
  whole = ap (λ w. set_at (least_top R X (λ t. signed_by_quorum w X t (cast_at k t i m))) (λ t. signers w X t (cast_at k t i m))) width ∙ ap behind (sym is)

  pub behind-none : o ≡ none → 0 ≡ set_behind R X (λ t. cast_at k t i m)
  behind-none e = sym (whole ∙ ap behind e)

  pub behind-some : (at n : ℕ) (H : List ℕ) (r : ℕ) → o ≡ some (view_of at) → Late k → r ≡ signers 16 X (view_of at) (asks (record { kind = k; notice = i; at = at; what = m; length = n }) H)
      → r ≡ set_behind R X (λ t. cast_at k t i m)
  behind-some at n H r e l q = q ∙ ap (signers 16 X (view_of at)) (asks-cast k i at m n H l) ∙ sym (whole ∙ ap behind e)

-- ---- acks and stores

pub acked-behind : (R : Ring) (X : List Stmt) (i m : ℕ) → set_behind R X (λ t. cast_at 7 t i m) ≡ set_behind R X (λ t. acks t i m)
unfolding cast_at acks
acked-behind R X i m = refl

pub stored-behind : (R : Ring) (X : List Stmt) (i m : ℕ) → set_behind R X (λ t. cast_at 8 t i m) ≡ store_set R X i m
unfolding cast_at stores store_set
stored-behind R X i m = refl

module _ (R : Ring) (senders : List ℕ) (X : List Stmt) (i m : ℕ) where
  pub acks-far : length senders ≤ i → 0 ≡ ack_set R senders X i m
  unfolding ack_set
  acks-far l = sym (ap (λ b. if b && is_prepared senders X i m then set_behind R X (λ t. acks t i m) else 0) (le-ltb i (length senders) l))

  module _ (l : i < length senders) (r : Bool) (asked : r ≡ is_prepared senders X i m) where
    near : ack_set R senders X i m ≡ (if r then set_behind R X (λ t. acks t i m) else 0)
    unfolding ack_set
    near = ap₂ (λ a b. if a && b then set_behind R X (λ t. acks t i m) else 0) (lt-ltb i (length senders) l) (sym asked)

    pub acks-unprepared : r ≡ false → 0 ≡ ack_set R senders X i m
    acks-unprepared e = sym (near ∙ ap (λ b. if b then set_behind R X (λ t. acks t i m) else 0) e)

    pub acks-prepared : (a : ℕ) → r ≡ true → a ≡ set_behind R X (λ t. acks t i m) → a ≡ ack_set R senders X i m
    acks-prepared a e q = q ∙ sym (near ∙ ap (λ b. if b then set_behind R X (λ t. acks t i m) else 0) e)
