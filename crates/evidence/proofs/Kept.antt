-- The groups of acks and stores by a quorum of a sealed top go to the front of the groups.
-- Assumes nothing.
use mathlib.Core.Path.{◌≡◌, refl, sym, ap, subst, ◌∙◌}
use mathlib.Core.Logic.{inl, inr}
use mathlib.Core.Bool.{Bool, true, false}
use mathlib.Core.List.{List}
use Prim.Native.Nat.{ℕ, ◌+◌, ◌/◌, ◌≤◌, ◌<◌, min}
use native.Mathlib.Decide.{ℕ_discrete, dec_lt}
use native.Mathlib.Omega.{arith}
use lib.Dec.{T}
use lib.ListN.{length, get_or, set, length-set}
use lib.Seq.{get_or-set_same, get_or-set_other}
use Rattle.protocol.specs.Statement.{Stmt}
use Rattle.protocol.specs.Lists.{any}
use Rattle.protocol.specs.Count.{count_quorum}
use Rattle.views.specs.Tally.{place_in, own_in}
use Rattle.pool.specs.Pool.{record_up_to, record_len, record_in}
use Rattle.pool.proofs.Records.{found}
use Rattle.votes.specs.Votes.{is_vote, alike, entry, vote_at, tag_by, GroupCounts, Groups, GroupsIn}
use Rattle.votes.specs.Chosen.{Picked}
use Rattle.votes.proofs.Alike.{Vote, says-vote, says-alike}
use Rattle.votes.proofs.Picked.{picked-skip, picked-take}
use Rattle.evidence.specs.Shown.{is_backed, Ended, BackedIn}
use Rattle.evidence.proofs.Backing.{backed-alike, backed-read, says-backed-by}

-- ---- the end of the groups

module _ (W ids : List ℕ) (len n : ℕ) (G G' : List ℕ) (same : (g : ℕ) → g < n → get_or G' g 0 ≡ get_or G g 0) where
  groups-same : Groups W ids len G n → Groups W ids len G' n
  groups-same r = record {
    most = r.most;
    place = λ g l. subst (λ x. place_in x < min len 512) (sym (same g l)) (r.place g l);
    vote = λ g l. subst (λ x. T (is_vote (entry W ids (place_in x)))) (sym (same g l)) (r.vote g l);
    tag = λ g l. subst (λ x. own_in x ≡ tag_by (entry W ids (place_in x))) (sym (same g l)) (r.tag g l);
    counts = λ g l. subst (λ x. GroupCounts x (entry W ids (place_in x)) (record_up_to W ids len)) (sym (same g l)) (r.counts g l);
    covers = λ i l v. let (g, k, a) = r.covers i l v in (g, k, subst (λ x. T (alike (entry W ids (place_in x)) (entry W ids i))) (sym (same g k)) a);
  }

pub ended-room : (W ids G : List ℕ) (n : ℕ) → length G ≡ 512 → n < 512 → GroupsIn W ids G n → Ended W ids (set G n 0)
unfolding own_in
ended-room W ids G n h l r = record {
  count = n;
  groups = groups-same W ids (get_or ids 512 0) n G (set G n 0) (λ g k. get_or-set_other G n g 0 0 (λ e. omega arith)) r;
  end = λ k. ap (λ x. x / 281474976710656) (get_or-set_same G n 0 0 (omega arith));
}

-- ---- those of acks and stores by a quorum of a sealed top go to the front

vote-of : (init : ℕ) (X : List Stmt) (s : Stmt) → T (is_backed init X s) → T (is_vote s)
vote-of init X s b = (says-vote s).complete (elim ((says-backed-by init X s).sound b).0.0 [ inl k ↦ inl (inr k) | inr k ↦ inr k ])

vote-tagged : (s : Stmt) → T (is_vote s) → tag_by s ≡ 0 → ⊥
unfolding tag_by
vote-tagged s v e = go ((says-vote s).sound v)
  where
    go : Vote s → ⊥
    go (inl (inl (inl k))) = omega arith
    go (inl (inl (inr k))) = omega arith
    go (inl (inr k)) = omega arith
    go (inr k) = omega arith

-- where there are no votes, none is
pub backed-none : (W ids : List ℕ) (init : ℕ) (G : List ℕ) → any is_vote (record_in W ids) ≡ false → BackedIn W ids init G 0
backed-none W ids init G e = record {
  most = omega arith;
  place = λ g l. absurd (omega arith);
  sound = λ g l. absurd (omega arith);
  read = λ g l. absurd (omega arith);
  covers = λ i l b. absurd (subst T (sym (found W ids is_vote (get_or ids 512 0) i l (is_true (vote-of init (record_in W ids) (entry W ids i) b))) ∙ e) tt);
}
  where
    is_true : {b : Bool} → T b → b ≡ true
    is_true {b = true} t = refl
    is_true {b = false} t = elim t [ ]

module _ (W ids : List ℕ) (init : ℕ) (G₀ : List ℕ) where
  abbrev backs : ℕ → Bool
  backs x = is_backed init (record_in W ids) (entry W ids (place_in x))

  -- of the groups before g, which have tags, those that are backed are the first n of G, and the others are as they were
  pub record KeptTo (G : List ℕ) (n g : ℕ) : Type 0 where
    pub long : length G ≡ 512
    pub rest : (h : ℕ) → g ≤ h → get_or G h 0 ≡ get_or G₀ h 0
    pub tagged : (h : ℕ) → h < g → own_in (get_or G₀ h 0) ≡ 0 → ⊥
    pub kept : Picked (λ h. backs (get_or G₀ h 0)) (λ c h. get_or G c 0 ≡ get_or G₀ h 0) g n

  module _ {G : List ℕ} {n g : ℕ} (w : KeptTo G n g) (k : ℕ) (is : k ≡ own_in (get_or G g 0)) where
    here : get_or G g 0 ≡ get_or G₀ g 0
    here = w.rest g (omega arith)

    tag-here : k ≡ own_in (get_or G₀ g 0)
    tag-here = is ∙ ap own_in here

    tagged-more : (k ≡ 0 → ⊥) → (h : ℕ) → h < g + 1 → own_in (get_or G₀ h 0) ≡ 0 → ⊥
    tagged-more d h l z = elim (ℕ_discrete h g) [
      | yes e ↦ d (tag-here ∙ ap (λ h. own_in (get_or G₀ h 0)) (sym e) ∙ z)
      | no m ↦ w.tagged h (omega arith) z
    ]

    module _ (d : k ≡ 0 → ⊥) (r : Bool) (asked : r ≡ backs (get_or G g 0)) where
      asked_here : r ≡ backs (get_or G₀ g 0)
      asked_here = asked ∙ ap backs here

      pub kept-skip : r ≡ false → KeptTo G n (g + 1)
      kept-skip f = record {
        long = w.long;
        rest = λ h l. w.rest h (omega arith);
        tagged = tagged-more d;
        kept = picked-skip (λ h. backs (get_or G₀ h 0)) r asked_here f w.kept;
      }

      pub kept-take : g < 512 → r ≡ true → KeptTo (set G n (get_or G g 0)) (n + 1) (g + 1)
      kept-take l f = record {
        long = length-set G n (get_or G g 0) ∙ w.long;
        rest = λ h m. get_or-set_other G n h (get_or G g 0) 0 (λ e. omega (arith, w.kept.fewer)) ∙ w.rest h (omega arith);
        tagged = tagged-more d;
        kept = picked-take (λ h. backs (get_or G₀ h 0)) r asked_here f (λ c h m q. get_or-set_other G n c (get_or G g 0) 0 (λ e. omega arith) ∙ q)
            (get_or-set_same G n (get_or G g 0) 0 (omega (arith, w.kept.fewer, w.long)) ∙ here) w.kept;
      }

    module _ (ended : Ended W ids G₀) (room : g < 512) where
      before-end : (k ≡ 0 → ⊥) → g < ended.count
      before-end d = elim (dec_lt g ended.count) [
        | yes l ↦ l
        | no m ↦ absurd (tagged-more d ended.count (omega arith) (ended.end (omega arith)))
      ]

      -- what is asked of a group
      pub group-here : (k ≡ 0 → ⊥)
          → (place_in (get_or G g 0) < record_len ids) × (own_in (get_or G g 0) ≡ tag_by (entry W ids (place_in (get_or G g 0))))
          × GroupCounts (get_or G g 0) (entry W ids (place_in (get_or G g 0))) (record_in W ids)
      group-here d =
          let l = before-end d in
          subst (λ x. (place_in x < record_len ids) × (own_in x ≡ tag_by (entry W ids (place_in x))) × GroupCounts x (entry W ids (place_in x)) (record_in W ids)) (sym here)
          (ended.groups.place g l, ended.groups.tag g l, ended.groups.counts g l)

      at-end : k ≡ 0 → g ≡ ended.count
      at-end z = elim (dec_lt g ended.count) [
        | yes l ↦ absurd (vote-tagged (vote_at W ids G₀ g) (ended.groups.vote g l) (sym (ended.groups.tag g l) ∙ sym tag-here ∙ z))
        | no m ↦ elim (dec_lt ended.count g) [
          | yes l ↦ absurd (w.tagged ended.count l (ended.end (omega arith)))
          | no q ↦ omega arith
        ]
      ]

  module _ {G : List ℕ} {n g : ℕ} (w : KeptTo G n g) (ended : Ended W ids G₀) where
    kept_whole : g ≡ ended.count → BackedIn W ids init G n
    kept_whole q = record {
      most = omega (arith, w.kept.fewer, ended.groups.most);
      place = λ c l. let (h, k, _, e) = w.kept.sound c l in subst (λ x. place_in x < record_len ids) (sym e) (ended.groups.place h (omega arith));
      sound = λ c l. let (h, k, t, e) = w.kept.sound c l in subst (λ x. T (backs x)) (sym e) t;
      read = λ c l.
          let (h, k, t, e) = w.kept.sound c l in
          subst (λ x. count_quorum 16 (entry W ids (place_in x)).at (alike (entry W ids (place_in x))) (record_in W ids) ≡ record { reached = true; read = place_in x + 1 }) (sym e)
          (backed-read init (record_in W ids) (vote_at W ids G₀ h) (get_or G₀ h 0) t (ended.groups.counts h (omega arith)));
      covers = λ i l b.
          let (h, k, al) = ended.groups.covers i l (vote-of init (record_in W ids) (entry W ids i) b) in
          let t = subst T (sym (backed-alike init (record_in W ids) ((says-alike _ _).sound al))) b in
          let (c, m, e) = w.kept.complete h (omega arith) t in
          (c, m, subst (λ x. T (alike (entry W ids (place_in x)) (entry W ids i))) (sym e) al);
    }

    pub kept-tagless : (k : ℕ) → k ≡ own_in (get_or G g 0) → g < 512 → k ≡ 0 → BackedIn W ids init G n
    kept-tagless k is l z = kept_whole (at-end w k is ended l z)

    pub kept-all : g ≡ 512 → BackedIn W ids init G n
    kept-all l = kept_whole (elim (dec_lt ended.count 512) [
      | yes m ↦ absurd (w.tagged ended.count (omega arith) (ended.end m))
      | no m ↦ omega (arith, w.kept.fewer, ended.groups.most)
    ])
