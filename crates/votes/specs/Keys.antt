-- Votes by three words: votes that are alike have the same words, and votes with the same words are alike but for their histories.
-- Assumes nothing.
use Rattle.std.specs.Prelude.{◌≡◌, Bool, true, false, not, ◌&&◌, ◌||◌, List, [], ◌∷◌, ℕ, ◌+◌, ◌*◌, ◌/◌, ◌%◌, ◌≤◌, ◌<◌, T, eqb, length, get_or, if◌then◌else◌, Option, Some, None}
use Rattle.protocol.specs.View.{View}
use Rattle.protocol.specs.History.{same_views}
use Rattle.protocol.specs.Statement.{Stmt, payload_of}
use Rattle.views.specs.View.{word_of}
use Rattle.pool.specs.Pool.{stmt_at}
use Rattle.tables.specs.Index.{key_at, Chained, Empty}
use Rattle.votes.specs.declared.keys.Vote.{Vote}
use Rattle.views.specs.Tally.{place_in, own_in}
use Rattle.votes.specs.Votes.{is_vote, alike, tag_by, vote_at, Groups}

-- The word of a view.
unfoldable pub key_of : View → ℕ
key_of v = word_of v

-- A word in 32 bits: views of the sixteen controllers that differ have others, since who left stands above who joined.
unfoldable pub folded : ℕ → ℕ
folded x = (x % 4294967296 + x / 65536) % 4294967296

-- How often the view at place p counts in a mix.
unfoldable pub weight_of : ℕ → ℕ
weight_of p = 2053 + p * 128

-- A word that equal histories share, and other ones seldom: h, and the words of views that stand at place p and on.
unfoldable pub mix_from : ℕ → ℕ → List View → ℕ
mix_from p h [] = h
mix_from p h (v ∷ l) = mix_from (p + 1) (h + key_of v * weight_of p) l

-- What a vote is for: its view, its history or its payload.
unfoldable pub what_of : Stmt → ℕ
what_of s = if eqb s.kind 3 then key_of s.view else if eqb s.kind 4 then mix_from 0 0 s.views else payload_of s

-- Of votes with the same words, those for histories are compared.
unfoldable pub same_names : Stmt → Stmt → Bool
same_names a s = not (eqb s.kind 4) || same_views a.views s.views

-- The words of the vote v: where it was signed, what it is for, and its tag.
pub record Key (W : List ℕ) (v : Vote) : Type 0 where
  pub at : v.at ≡ key_of (stmt_at W v.number).at
  pub what : v.what ≡ what_of (stmt_at W v.number)
  pub tag : v.tag ≡ tag_by (stmt_at W v.number)

-- The groups G have the words of their votes in K, but for the tag, which is in G.
pub record Worded (W ids K G : List ℕ) (n : ℕ) : Type 0 where
  pub place : (g : ℕ) → g < n → place_in (get_or G g 0) < 512
  pub vote : (g : ℕ) → g < n → T (is_vote (vote_at W ids G g))
  pub tag : (g : ℕ) → g < n → own_in (get_or G g 0) ≡ tag_by (vote_at W ids G g)
  pub at : (g : ℕ) → g < n → key_at K 0 g ≡ key_of (vote_at W ids G g).at
  pub what : (g : ℕ) → g < n → key_at K 1 g ≡ what_of (vote_at W ids G g)

-- Whether group g has the words of the vote v.
unfoldable pub has_words : List ℕ → List ℕ → Vote → ℕ → Bool
has_words K G v g = eqb (key_at K 1 g) v.what && eqb (key_at K 0 g) v.at && eqb (own_in (get_or G g 0)) v.tag

-- r is the group of statement s, or None where no group is like it.
pub record Place (W ids G : List ℕ) (n s : ℕ) (r : Option ℕ) : Type 0 where
  pub none : r ≡ None → (g : ℕ) → g < n → alike (vote_at W ids G g) (stmt_at W s) ≡ false
  pub here : (g : ℕ) → r ≡ Some g → (g < n) × (alike (vote_at W ids G g) (stmt_at W s) ≡ true)

-- The slot of the words of a vote: votes that are alike share it, and other ones seldom.
unfoldable pub slot_by : ℕ → ℕ → ℕ → ℕ
slot_by at what tag = ((folded at + tag % 65536) * 1640531527 + folded what * 668265263) / 16777216 % 256

-- The slot of group g.
unfoldable pub group_slot : List ℕ → List ℕ → ℕ → ℕ
group_slot K G g = slot_by (key_at K 0 g) (key_at K 1 g) (own_in (get_or G g 0))

-- The n groups have the words of their votes, and the index of the first table leads to them.
pub record Grouped (W ids K R G : List ℕ) (n : ℕ) : Type 0 where
  pub few : n ≤ 512
  pub worded : Worded W ids K G n
  pub chained : Chained (group_slot K G) R 0 n

-- The first i entries are in n groups, no two of which are alike, and the index of the first table leads to them.
pub record Sofar (W ids : List ℕ) (i : ℕ) (K R G : List ℕ) (n : ℕ) : Type 0 where
  pub fewer : n ≤ i
  pub room : length G ≡ 512
  pub worded : Worded W ids K G n
  pub chained : Chained (group_slot K G) R 0 n
  pub empty : Empty R 1
  pub groups : Groups W ids i G n
  pub distinct : (g h : ℕ) → g < n → h < n → T (alike (vote_at W ids G g) (vote_at W ids G h)) → g ≡ h
