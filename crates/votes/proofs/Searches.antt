-- Laws of the search for the group of a vote.
-- Assumes nothing.
use mathlib.Core.Path.{◌≡◌, refl, sym, ap, subst, ◌∙◌}
use mathlib.Core.Bool.{Bool, true, false}
use mathlib.Core.List.{List}
use Prim.Native.Nat.{ℕ, ◌≤◌, ◌<◌}
use native.Mathlib.Decide.{ℕ_discrete}
use native.Mathlib.Omega.{arith}
use lib.Dec.{T, eqb, eqb→eq}
use lib.ListN.{get_or}
use borrow.Author.Tests.{eq-eqb}
use Rattle.protocol.proofs.Rules.{and_first, and_second}
use Rattle.pool.specs.Pool.{stmt_at}
use Rattle.std.specs.Prelude.{Option, Some, None}
use Rattle.tables.proofs.Searches.{found-within}
use Rattle.tables.specs.Index.{newest_at, older_at, key_at, Walks, Leads, Finds, LatestOf}
use Rattle.votes.specs.declared.keys.Vote.{Vote}
use Rattle.views.specs.Tally.{place_in, own_in}
use Rattle.votes.specs.Votes.{alike, entry, vote_at}
use Rattle.votes.specs.Keys.{same_names, slot_by, group_slot, Key, Worded, has_words, Grouped, Place}
use Rattle.votes.proofs.Alike.{narrow, Words, other-what, other_at, other_tag, other-names, same-words}

-- the search for the group of v has come to x: a group with its words, or none, and no group above it is like v
pub record Searched (W ids K G : List ℕ) (n : ℕ) (v : Vote) (x : Option ℕ) : Type 0 where
  pub here : (g : ℕ) → x ≡ Some g → (g < n) × (has_words K G v g ≡ true)
  pub all : (h : ℕ) → h < n → alike (vote_at W ids G h) (stmt_at W v.number) ≡ true → (g : ℕ) × (x ≡ Some g) × (h ≤ g)

-- ---- the words of a group and of a vote

pub record SameWords (K G : List ℕ) (v : Vote) (g : ℕ) : Type 0 where
  pub what : key_at K 1 g ≡ v.what
  pub at : key_at K 0 g ≡ v.at
  pub tag : own_in (get_or G g 0) ≡ v.tag

words-has : (K G : List ℕ) (v : Vote) (g : ℕ) → key_at K 1 g ≡ v.what → key_at K 0 g ≡ v.at → own_in (get_or G g 0) ≡ v.tag → has_words K G v g ≡ true
unfolding has_words
words-has K G v g a b c = rw (eq-eqb _ _ a, eq-eqb _ _ b, eq-eqb _ _ c)

words_are : (K G : List ℕ) (v : Vote) (g : ℕ) → has_words K G v g ≡ true → SameWords K G v g
unfolding has_words
words_are K G v g h =
    let t : T (has_words K G v g) = subst T (sym h) tt in
    let what : T (eqb (key_at K 1 g) v.what) = search (and_first, and_second) in
    let at : T (eqb (key_at K 0 g) v.at) = search (and_first, and_second) in
    let tag : T (eqb (own_in (get_or G g 0)) v.tag) = search (and_first, and_second) in
    record { what = eqb→eq _ _ what; at = eqb→eq _ _ at; tag = eqb→eq _ _ tag }

-- groups with the words of v are of its slot
pub with-slot : (K G : List ℕ) (v : Vote) (g : ℕ) → has_words K G v g ≡ true → group_slot K G g ≡ slot_by v.at v.what v.tag
unfolding group_slot
with-slot K G v g h = let s = words_are K G v g h in rw (s.at, s.what, s.tag)

module _ {W ids K G : List ℕ} {n : ℕ} {v : Vote} (worded : Worded W ids K G n) (key : Key W v) where
  words : (g : ℕ) → g < n → Words (vote_at W ids G g) (stmt_at W v.number) (key_at K 0 g) v.at (key_at K 1 g) v.what (own_in (get_or G g 0)) v.tag
  words g l = record { at = worded.at g l; at_other = key.at; what = worded.what g l; what-other = key.what; tag = worded.tag g l; tag-other = key.tag }

  -- a group that is like v has its words
  alike-words : (g : ℕ) → g < n → alike (vote_at W ids G g) (stmt_at W v.number) ≡ true → has_words K G v g ≡ true
  alike-words g l h = go (ℕ_discrete (key_at K 1 g) v.what) (ℕ_discrete (key_at K 0 g) v.at) (ℕ_discrete (own_in (get_or G g 0)) v.tag)
    where
      not-so : {A : Type 0} → alike (vote_at W ids G g) (stmt_at W v.number) ≡ false → A
      not-so e = absurd (cc)

      go : Dec (key_at K 1 g ≡ v.what) → Dec (key_at K 0 g ≡ v.at) → Dec (own_in (get_or G g 0) ≡ v.tag) → has_words K G v g ≡ true
      go (no a) _ _ = not-so (other-what (vote_at W ids G g) (stmt_at W v.number) _ v.what (worded.what g l) key.what a)
      go (yes a) (no b) _ = not-so (other_at (vote_at W ids G g) (stmt_at W v.number) _ v.at (worded.at g l) key.at b)
      go (yes a) (yes b) (no c) = not-so (other_tag (vote_at W ids G g) (stmt_at W v.number) _ v.tag (worded.tag g l) key.tag c)
      go (yes a) (yes b) (yes c) = words-has K G v g a b c

  -- a group with the same words, whose first vote stands at place f of the record

  pub not-names : (g : ℕ) {f : ℕ} (b : Bool) → f ≡ place_in (get_or G g 0) → b ≡ same_names (entry W ids f) (stmt_at W v.number) → b ≡ false → alike (vote_at W ids G g) (stmt_at W v.number) ≡ false
  not-names g b q e d = other-names (vote_at W ids G g) (stmt_at W v.number) b (e ∙ ap (λ z. same_names (entry W ids z) (stmt_at W v.number)) q) d

  pub found_at : (g : ℕ) {f : ℕ} (b : Bool) → g < n → has_words K G v g ≡ true → f ≡ place_in (get_or G g 0) → b ≡ same_names (entry W ids f) (stmt_at W v.number) → b ≡ true
      → Place W ids G n v.number (Some g)
  found_at g b l h q k t = record { none = λ p. absurd (cc); here = λ f p. let e : g ≡ f = cc in rw (← e) (l, like) }
    where
      s : SameWords K G v g
      s = words_are K G v g h

      like : alike (vote_at W ids G g) (stmt_at W v.number) ≡ true
      like = same-words (vote_at W ids G g) (stmt_at W v.number) b (narrow W _) (narrow W _) (worded.vote g l) (words g l) s.at s.what s.tag
          (k ∙ ap (λ z. same_names (entry W ids z) (stmt_at W v.number)) q) t

  -- a group with other words is not like v
  pub other-words : (g : ℕ) → g < n → (has_words K G v g ≡ true → ⊥) → alike (vote_at W ids G g) (stmt_at W v.number) ≡ false
  other-words g l d = unlike _ (λ e. d (alike-words g l e))
    where
      unlike : (b : Bool) → (b ≡ true → ⊥) → b ≡ false
      unlike true k = absurd (k refl)
      unlike false k = refl

  pub searched-first : {x : Option ℕ} → LatestOf (λ g. has_words K G v g ≡ true) n x → Searched W ids K G n v x
  searched-first w = record { here = w.here; all = λ h l e. w.all h l (alike-words h l e) }

  pub searched-next : {g : ℕ} {x y : Option ℕ} → Searched W ids K G n v x → x ≡ Some g → alike (vote_at W ids G g) (stmt_at W v.number) ≡ false
      → LatestOf (λ g. has_words K G v g ≡ true) g y → Searched W ids K G n v y
  searched-next {g} {x} {y} f u d w = record {
    here = λ h p. let (l, q) = w.here h p in (omega (arith, l, (f.here g u).0), q);
    all = λ h l e. go h l e (f.all h l e) (ℕ_discrete h g);
  }
    where
      go : (h : ℕ) → h < n → alike (vote_at W ids G h) (stmt_at W v.number) ≡ true → (k : ℕ) × (x ≡ Some k) × (h ≤ k) → Dec (h ≡ g) → (k : ℕ) × (y ≡ Some k) × (h ≤ k)
      go h l e (k, p, m) (yes z) = let q : alike (vote_at W ids G g) (stmt_at W v.number) ≡ true = rw (← z) e in absurd (cc)
      go h l e (k, p, m) (no z) = let q : k ≡ g = cc in w.all h (omega arith) (alike-words h l e)

-- ---- the walks of the search, along the slot of v

module _ {W ids K R G : List ℕ} {n : ℕ} (groups : Grouped W ids K R G n) (v : Vote) where
  abbrev pub Along : ℕ → Option ℕ → Type 0
  Along m x = Walks (group_slot K G) R 0 (slot_by v.at v.what v.tag) m x

  pub along-first : {z : ℕ} {x : Option ℕ} → z ≡ slot_by v.at v.what v.tag → z < 256 → x ≡ newest_at R 0 z → Along n x
  along-first e l q = record { rows = n; few = groups.few; chained = groups.chained; most = omega arith; newest = rw (q, ← e) (groups.chained.slots _ l) }

  pub along-next : {g : ℕ} {x : Option ℕ} → (g < n) × (has_words K G v g ≡ true) → x ≡ older_at R 0 g → Along g x
  along-next {g} (l, h) q = record { rows = n; few = groups.few; chained = groups.chained; most = omega arith; newest = rw (q, ← with-slot K G v g h) (groups.chained.links g l) }

  pub leads : {m : ℕ} {x : Option ℕ} → Along m x → Leads R 0 x
  leads w = record { at = group_slot K G; slot = slot_by v.at v.what v.tag; below = _; walks = w }

  -- what the walk finds
  pub found-words : {m : ℕ} {x y : Option ℕ} → Along m x → Finds R 0 x (has_words K G v) y → LatestOf (λ g. has_words K G v g ≡ true) m y
  found-words w f = found-within f w (with-slot K G v)

pub none_found : {W ids K G : List ℕ} {n : ℕ} {v : Vote} {x : Option ℕ} → Searched W ids K G n v x → x ≡ None → Place W ids G n v.number None
none_found {W} {ids} {K} {G} {n} {v} f e = record { none = λ p h l. go h l (alike (vote_at W ids G h) (stmt_at W v.number)) refl; here = λ g p. absurd (cc) }
  where
    go : (h : ℕ) → h < n → (b : Bool) → alike (vote_at W ids G h) (stmt_at W v.number) ≡ b → alike (vote_at W ids G h) (stmt_at W v.number) ≡ false
    go h l false q = q
    go h l true q = let (g, p, m) = f.all h l q in absurd (cc)
