-- Laws of the groups: one entry more.
-- Assumes nothing.
use mathlib.Core.Path.{◌≡◌, refl, sym, ap, subst, ◌∙◌}
use mathlib.Core.Logic.{◌⊎◌, inl, inr}
use mathlib.Core.Bool.{Bool, true, false}
use mathlib.Core.List.{List}
use Prim.Native.Nat.{ℕ, zero, suc, ◌+◌, ◌≤◌, ◌<◌, min}
use native.Mathlib.Decide.{ℕ_discrete, dec_lt}
use native.Mathlib.Numerals.{add-one}
use native.Mathlib.Omega.{arith}
use lib.Dec.{T}
use lib.ListN.{length, get_or, set, length-set}
use lib.Seq.{get_or-set_same, get_or-set_other}
use Rattle.protocol.specs.Statement.{Stmt}
use Rattle.protocol.specs.View.{View}
use Rattle.views.specs.View.{view_of}
use Rattle.views.specs.Tally.{place_in, own_in, Tallied, Signed, TallyOf}
use Rattle.views.proofs.Views.{passes, fails}
use Rattle.pool.specs.Pool.{stmt_at, record_up_to}
use Rattle.pool.proofs.Records.{whole, count-first, count-passes, count-signs}
use Rattle.std.specs.Prelude.{Option, Some, None}
use Rattle.tables.specs.Index.{key_at, Empty, RowLinked, RowKeyed}
use Rattle.tables.proofs.Chains.{chained-first, chained_same, chained-new, empty-kept}
use Rattle.protocol.proofs.Says.{from-true}
use Rattle.votes.specs.declared.keys.Vote.{Vote}
use Rattle.votes.specs.Votes.{is_vote, alike, entry, tag_by, vote_at, GroupCounts, Groups}
use Rattle.votes.specs.Keys.{key_of, what_of, slot_by, group_slot, Key, Grouped, Place, Sofar}
use Rattle.votes.proofs.Alike.{Alike, says-vote, says-alike, alike-vote, alike_self, alike_both, alike_turned, alike_same, view-of-key, what-same, tag_same, narrow, no-T}

-- the word u is of a group that begins with entry i, before anybody signed
pub record Begun (t : View) (i k u : ℕ) : Type 0 where
  pub unsigned : Tallied t (λ k. false) u
  pub place : place_in u ≡ i
  pub tag : own_in u ≡ k

-- what is counted of one vote is counted of those like it
counts-alike : {a s : Stmt} {X : List Stmt} {x : ℕ} → Alike a s → GroupCounts x a X → GroupCounts x s X
counts-alike {a} {s} {X} {x} al c = subst (λ p. TallyOf s.at p X x) (alike_same al) (subst (λ t. TallyOf t (alike a) X x) (sym al.at) c)

module _ (W ids : List ℕ) where
  -- ---- the count, where no entry has p

  tally-none : (t : View) (p : Stmt → Bool) (i x : ℕ) → i ≤ 512 → ((j : ℕ) → j < i → p (entry W ids j) ≡ false) → Tallied t (λ k. false) x → TallyOf t p (record_up_to W ids i) x
  tally-none t p zero x l f a = count-first W ids t p x a
  tally-none t p (suc i) x l f a = rw add-one at (count-passes W ids t p i x (omega arith) (f i (omega arith)) (tally-none t p i x (omega arith) (λ j m. f j (omega arith)) a))

  -- ---- the entry i

  abbrev group : List ℕ → ℕ → Stmt
  group G g = vote_at W ids G g

  same : {a s : Stmt} → T (alike a s) → Alike a s
  same {a} {s} t = (says-alike a s).sound t

  pub sofar-first : {K R G : List ℕ} → length G ≡ 512 → Empty R 0 → Empty R 1 → Sofar W ids 0 K R G 0
  sofar-first h e f = record {
    fewer = omega arith;
    room = h;
    worded = record { place = λ g l. absurd (omega arith); vote = λ g l. absurd (omega arith); tag = λ g l. absurd (omega arith); at = λ g l. absurd (omega arith); what = λ g l. absurd (omega arith) };
    chained = chained-first e;
    empty = f;
    groups = record { most = omega arith; place = λ g l. absurd (omega arith); vote = λ g l. absurd (omega arith); tag = λ g l. absurd (omega arith); counts = λ g l. absurd (omega arith); covers = λ i l. absurd (omega arith) };
    distinct = λ g h l. absurd (omega arith);
  }

  -- the groups as the search for one asks for them
  pub grouped : {i n : ℕ} {K R G : List ℕ} → Sofar W ids i K R G n → Grouped W ids K R G n
  grouped so = record { few = so.groups.most; worded = so.worded; chained = so.chained }

  module _ {i n : ℕ} {K R G : List ℕ} (small : i < 512) (so : Sofar W ids i K R G n) where
    -- no vote: all stays
    pub sofar-skip : (b : Bool) → b ≡ is_vote (entry W ids i) → b ≡ false → Sofar W ids (i + 1) K R G n
    sofar-skip b e f = record {
      fewer = omega (arith, so.fewer);
      room = so.room;
      worded = so.worded;
      chained = so.chained;
      empty = so.empty;
      groups = record {
        most = so.groups.most;
        place = λ g l. omega (arith, so.groups.place g l);
        vote = so.groups.vote;
        tag = so.groups.tag;
        counts = λ g l. count-passes W ids (group G g).at (alike (group G g)) i (get_or G g 0) small (fails (says-alike (group G g) (entry W ids i)) (λ al. none ((says-vote (entry W ids i)).complete (alike-vote al)))) (so.groups.counts g l);
        covers = λ j l v. covered j v (dec_lt j i) (omega arith);
      };
      distinct = so.distinct;
    }
      where
        none : T (is_vote (entry W ids i)) → ⊥
        none = no-T (sym e ∙ f)

        covered : (j : ℕ) → T (is_vote (entry W ids j)) → Dec (j < i) → j ≤ i → (g : ℕ) × (g < n) × T (alike (group G g) (entry W ids j))
        covered j v (yes m) l = so.groups.covers j (omega arith) v
        covered j v (no m) l = let q : j ≡ i = omega arith in absurd (none (subst (λ x. T (is_vote (entry W ids x))) q v))

    module _ (v : Vote) (r : Option ℕ) (o : ℕ) (is : v.number ≡ get_or ids i 0) (found : Place W ids G n v.number r) (by : o ≡ (entry W ids i).origin) where
      at : Place W ids G n (get_or ids i 0) r
      at = subst (λ s. Place W ids G n s r) is found

      -- a vote of group g
      pub sofar-old : (g x : ℕ) → r ≡ Some g → Signed (get_or G g 0) o i x → Sofar W ids (i + 1) K R (set G g x) n
      unfolding group_slot
      sofar-old g x f y = record {
        fewer = omega (arith, so.fewer);
        room = length-set G g x ∙ so.room;
        worded = record {
          place = λ h m. omega (arith, small, placed h m);
          vote = λ h m. voted h m;
          tag = λ h m. tagged h ∙ so.worded.tag h m ∙ tag_same (group G h) (group (set G g x) h) (stands h m);
          at = λ h m. so.worded.at h m ∙ ap key_of (sym (stands h m).at);
          what = λ h m. so.worded.what h m ∙ what-same (group G h) (group (set G g x) h) (stands h m) (stands h m).vote;
        };
        chained = chained_same (λ h m. ap (slot_by (key_at K 0 h) (key_at K 1 h)) (tagged h)) so.chained;
        empty = so.empty;
        groups = record {
          most = so.groups.most;
          place = λ h m. omega (arith, small, placed h m);
          vote = λ h m. voted h m;
          tag = λ h m. tagged h ∙ so.groups.tag h m ∙ tag_same (group G h) (group (set G g x) h) (stands h m);
          counts = λ h m. counts-alike (stands h m) (counted h m (ℕ_discrete h g));
          covers = λ j m v. covered j v (dec_lt j i) (omega arith);
        };
        distinct = λ h j a b t. so.distinct h j a b ((says-alike (group G h) (group G j)).complete (back h j a b (same t)));
      }
        where
          l : g < n
          l = (at.here g f).0

          here : T (alike (group G g) (entry W ids i))
          here = from-true (at.here g f).1

          word : get_or (set G g x) g 0 ≡ x
          word = get_or-set_same G g x 0 (omega (arith, so.room, so.fewer, l))

          tagged : (h : ℕ) → own_in (get_or (set G g x) h 0) ≡ own_in (get_or G h 0)
          tagged h = elim (ℕ_discrete h g) [
            | yes q ↦ rw (q, word) y.own
            | no d ↦ ap own_in (get_or-set_other G g h x 0 d)
          ]

          self : (h : ℕ) → h < n → Alike (group G h) (group G h)
          self h m = alike_self (group G h) ((says-vote (group G h)).sound (so.worded.vote h m))

          -- each group stands for a vote like the one before
          stands : (h : ℕ) → h < n → Alike (group G h) (group (set G g x) h)
          stands h m = go (ℕ_discrete h g) y.either
            where
              go : Dec (h ≡ g) → (x ≡ get_or G g 0) ⊎ (place_in x ≡ i) → Alike (group G h) (group (set G g x) h)
              go (yes q) (inl e) = rw (q, word, e) (self g l)
              go (yes q) (inr e) = rw (q, word, e) (same here)
              go (no d) e = rw (get_or-set_other G g h x 0 d) (self h m)

          voted : (h : ℕ) → h < n → T (is_vote (group (set G g x) h))
          voted h m = (says-vote (group (set G g x) h)).complete (alike-vote (stands h m))

          placed : (h : ℕ) → h < n → place_in (get_or (set G g x) h 0) ≤ i
          placed h m = go (ℕ_discrete h g) y.either
            where
              go : Dec (h ≡ g) → (x ≡ get_or G g 0) ⊎ (place_in x ≡ i) → place_in (get_or (set G g x) h 0) ≤ i
              go (yes q) (inl e) = rw (q, word, e) (omega (arith, so.groups.place g l))
              go (yes q) (inr e) = rw (q, word, e) (omega arith)
              go (no d) e = rw (get_or-set_other G g h x 0 d) (omega (arith, so.groups.place h m))

          counted : (h : ℕ) → h < n → Dec (h ≡ g) → GroupCounts (get_or (set G g x) h 0) (group G h) (record_up_to W ids (i + 1))
          counted h m (yes q) = rw (q, word) (count-signs W ids (group G g).at (alike (group G g)) i (get_or G g 0) x small (at.here g f).1 (subst (λ z. Signed (get_or G g 0) z i x) by y) (so.groups.counts g l))
          counted h m (no d) = rw (get_or-set_other G g h x 0 d)
              (count-passes W ids (group G h).at (alike (group G h)) i (get_or G h 0) small
              (fails (says-alike (group G h) (entry W ids i)) (λ al. d (so.distinct h g m l ((says-alike (group G h) (group G g)).complete (alike_both (alike_turned al) (alike_turned (same here)))))))
              (so.groups.counts h m))

          -- groups that are alike were so
          back : (h j : ℕ) → h < n → j < n → Alike (group (set G g x) h) (group (set G g x) j) → Alike (group G h) (group G j)
          back h j a b al = alike_both (alike_turned (alike_both (alike_turned (stands h a)) al)) (alike_turned (stands j b))

          covered : (j : ℕ) → T (is_vote (entry W ids j)) → Dec (j < i) → j ≤ i → (h : ℕ) × (h < n) × T (alike (group (set G g x) h) (entry W ids j))
          covered j v (yes m) k = let (h, a, t) = so.groups.covers j (omega arith) v in (h, a, like h a (same t))
            where
              like : (h : ℕ) → h < n → Alike (group G h) (entry W ids j) → T (alike (group (set G g x) h) (entry W ids j))
              like h a al = (says-alike (group (set G g x) h) (entry W ids j)).complete (alike_both (stands h a) al)
          covered j v (no m) k = let q : i ≡ j = omega arith in (g, l, (says-alike (group (set G g x) g) (entry W ids j)).complete (alike_both (stands g l) (same (subst (λ z. T (alike (group G g) (entry W ids z))) q here))))

      -- a vote of a new group
      pub sofar-new : {K' K'' R' : List ℕ} (u x z : ℕ) (b : Bool) → r ≡ None → b ≡ is_vote (entry W ids i) → b ≡ true → Key W v → RowKeyed K 0 n v.at K' → RowKeyed K' 1 n v.what K''
          → Begun (view_of v.at) i v.tag u → Signed u o i x → z ≡ slot_by v.at v.what v.tag → z < 256 → RowLinked R 0 z n R' → Sofar W ids (i + 1) K'' R' (set G n x) (n + 1)
      unfolding group_slot
      sofar-new {K'} {K''} {R'} u x z b d e f key put put' y w q c link = record {
        fewer = omega (arith, so.fewer);
        room = length-set G n x ∙ so.room;
        worded = record {
          place = λ h m. placed 512 h m (ℕ_discrete h n) small (λ l. so.worded.place h l);
          vote = λ h m. voted h m (ℕ_discrete h n);
          tag = λ h m. tagged h m (ℕ_discrete h n);
          at = λ h m. signed-at h m (ℕ_discrete h n);
          what = λ h m. meant h m (ℕ_discrete h n);
        };
        chained = chained-new (omega (arith, so.fewer)) c (slots (new_key ∙ refl) new_key' (ap own_in new_g ∙ tag) ∙ sym q) link
            (chained_same (λ h m. slots (old_key h m) (old_key' h m) (ap own_in (old_g h (λ u. omega arith)))) so.chained);
        empty = empty-kept (link.others 1 (omega arith) (λ u. omega arith)) so.empty;
        groups = record {
          most = omega (arith, so.fewer);
          place = λ h m. placed (min (i + 1) 512) h m (ℕ_discrete h n) (omega arith) (λ l. omega (arith, so.groups.place h l));
          vote = λ h m. voted h m (ℕ_discrete h n);
          tag = λ h m. tagged h m (ℕ_discrete h n);
          counts = λ h m. counted h m (ℕ_discrete h n);
          covers = λ j m v. covered j v (dec_lt j i) (omega arith);
        };
        distinct = λ h j l m t. apart h j l m t (ℕ_discrete h n) (ℕ_discrete j n);
      }
        where
          place : place_in x ≡ i
          place = go w.either
            where
              go : (x ≡ u) ⊎ (place_in x ≡ i) → place_in x ≡ i
              go (inl e) = ap place_in e ∙ y.place
              go (inr e) = e

          tag : own_in x ≡ v.tag
          tag = w.own ∙ y.tag

          vote : T (is_vote (entry W ids i))
          vote = from-true (sym e ∙ f)

          self : T (alike (entry W ids i) (entry W ids i))
          self = (says-alike (entry W ids i) (entry W ids i)).complete (alike_self (entry W ids i) ((says-vote (entry W ids i)).sound vote))

          slots : {j j' k k' l l' : ℕ} → j ≡ j' → k ≡ k' → l ≡ l' → slot_by j k l ≡ slot_by j' k' l'
          slots p p' p'' = cc

          new_g : get_or (set G n x) n 0 ≡ x
          new_g = get_or-set_same G n x 0 (omega (arith, so.room, so.fewer))

          old_g : (h : ℕ) → (h ≡ n → ⊥) → get_or (set G n x) h 0 ≡ get_or G h 0
          old_g h = get_or-set_other G n h x 0

          new_key : key_at K'' 0 n ≡ v.at
          new_key = (put'.others 0 (omega arith) (λ u. omega arith)).key n (omega (arith, so.fewer)) ∙ put.here

          new_key' : key_at K'' 1 n ≡ v.what
          new_key' = put'.here

          old_key : (h : ℕ) → h < n → key_at K'' 0 h ≡ key_at K 0 h
          old_key h l = (put'.others 0 (omega arith) (λ u. omega arith)).key h (omega (arith, so.fewer)) ∙ put.keys h (omega (arith, so.fewer)) (λ u. omega arith)

          old_key' : (h : ℕ) → h < n → key_at K'' 1 h ≡ key_at K 1 h
          old_key' h l = put'.keys h (omega (arith, so.fewer)) (λ u. omega arith) ∙ (put.others 1 (omega arith) (λ u. omega arith)).key h (omega (arith, so.fewer))

          fresh : (h : ℕ) → h < n → alike (group G h) (entry W ids i) ≡ false
          fresh h l = at.none d h l

          strange : (h : ℕ) → h < n → Alike (group G h) (entry W ids i) → ⊥
          strange h l al = no-T (fresh h l) ((says-alike (group G h) (entry W ids i)).complete al)

          placed : (most h : ℕ) → h < n + 1 → Dec (h ≡ n) → i < most → (h < n → place_in (get_or G h 0) < most) → place_in (get_or (set G n x) h 0) < most
          placed most h m (yes u) l k = rw (u, new_g, place) l
          placed most h m (no u) l k = rw (old_g h u) (k (omega arith))

          voted : (h : ℕ) → h < n + 1 → Dec (h ≡ n) → T (is_vote (group (set G n x) h))
          voted h m (yes u) = rw (u, new_g, place) vote
          voted h m (no u) = rw (old_g h u) (so.worded.vote h (omega arith))

          tagged : (h : ℕ) → h < n + 1 → Dec (h ≡ n) → own_in (get_or (set G n x) h 0) ≡ tag_by (group (set G n x) h)
          tagged h m (yes u) = rw (u, new_g, place) (tag ∙ key.tag ∙ ap (λ s. tag_by (stmt_at W s)) is)
          tagged h m (no u) = rw (old_g h u) (so.worded.tag h (omega arith))

          signed-at : (h : ℕ) → h < n + 1 → Dec (h ≡ n) → key_at K'' 0 h ≡ key_of (group (set G n x) h).at
          signed-at h m (yes u) = rw (u, new_g, place) (new_key ∙ key.at ∙ ap (λ s. key_of (stmt_at W s).at) is)
          signed-at h m (no u) = rw (old_g h u) (old_key h (omega arith) ∙ so.worded.at h (omega arith))

          meant : (h : ℕ) → h < n + 1 → Dec (h ≡ n) → key_at K'' 1 h ≡ what_of (group (set G n x) h)
          meant h m (yes u) = rw (u, new_g, place) (new_key' ∙ key.what ∙ ap (λ s. what_of (stmt_at W s)) is)
          meant h m (no u) = rw (old_g h u) (old_key' h (omega arith) ∙ so.worded.what h (omega arith))

          unlike : (j : ℕ) → j < i → alike (entry W ids i) (entry W ids j) ≡ false
          unlike j m = fails (says-alike (entry W ids i) (entry W ids j)) (λ al. clash al (so.groups.covers j (omega arith) ((says-vote (entry W ids j)).complete (alike-vote al))))
            where
              clash : Alike (entry W ids i) (entry W ids j) → (h : ℕ) × (h < n) × T (alike (group G h) (entry W ids j)) → ⊥
              clash al (h, l, t) = strange h l (alike_both (alike_turned (same t)) (alike_turned al))

          signed-here : view_of v.at ≡ (entry W ids i).at
          signed-here = ap view_of (key.at ∙ ap (λ s. key_of (stmt_at W s).at) is) ∙ view-of-key (entry W ids i).at (narrow W (get_or ids i 0)).at

          counted : (h : ℕ) → h < n + 1 → Dec (h ≡ n) → GroupCounts (get_or (set G n x) h 0) (group (set G n x) h) (record_up_to W ids (i + 1))
          counted h m (yes q) = rw (q, new_g, place)
              (count-signs W ids (entry W ids i).at (alike (entry W ids i)) i u x small (passes (says-alike (entry W ids i) (entry W ids i)) (same self)) (subst (λ z. Signed u z i x) by w)
              (tally-none (entry W ids i).at (alike (entry W ids i)) i u (omega arith) unlike (subst (λ t. Tallied t (λ k. false) u) signed-here y.unsigned)))
          counted h m (no d) = rw (old_g h d)
              (count-passes W ids (group G h).at (alike (group G h)) i (get_or G h 0) small (fresh h (omega arith)) (so.groups.counts h (omega arith)))

          covered : (j : ℕ) → T (is_vote (entry W ids j)) → Dec (j < i) → j ≤ i → (h : ℕ) × (h < n + 1) × T (alike (group (set G n x) h) (entry W ids j))
          covered j a (yes m) k = let (h, l, t) = so.groups.covers j (omega arith) a in (h, omega arith, rw (old_g h (λ u. omega arith)) t)
          covered j a (no m) k = let u : j ≡ i = omega arith in (n, omega arith, rw (new_g, place, u) self)

          apart : (h j : ℕ) → h < n + 1 → j < n + 1 → T (alike (group (set G n x) h) (group (set G n x) j)) → Dec (h ≡ n) → Dec (j ≡ n) → h ≡ j
          apart h j l m t (yes u) (yes v) = u ∙ sym v
          apart h j l m t (yes u) (no v) = absurd (strange j (omega arith) (alike_turned (same (rw (u, new_g, place, old_g j v) at t))))
          apart h j l m t (no u) (yes v) = absurd (strange h (omega arith) (same (rw (v, new_g, place, old_g h u) at t)))
          apart h j l m t (no u) (no v) = so.distinct h j (omega arith) (omega arith) (rw (old_g h u, old_g j v) at t)

  pub sofar-whole : (len : ℕ) {i n : ℕ} {K R G : List ℕ} → i ≡ min len 512 → Sofar W ids i K R G n → Groups W ids len G n
  sofar-whole len {i} {n} {G = G} e so = record {
    most = so.groups.most;
    place = λ g l. omega (arith, so.groups.place g l);
    vote = so.groups.vote;
    tag = so.groups.tag;
    counts = λ g l. subst (GroupCounts (get_or G g 0) (group G g)) (whole W ids len i e) (so.groups.counts g l);
    covers = λ j l v. so.groups.covers j (omega arith) v;
  }
