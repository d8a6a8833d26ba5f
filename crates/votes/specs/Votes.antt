-- The votes of a record: agree-views, agree-histories, acks and stores, gathered by what they say.
-- Assumes nothing.
use Rattle.std.specs.Prelude.{◌≡◌, Bool, ◌&&◌, ◌||◌, List, ℕ, ◌+◌, ◌*◌, ◌≤◌, ◌<◌, min, T, leb, get_or, if◌then◌else◌}
use Rattle.protocol.specs.Statement.{Stmt, payload_of, is_kind, agrees_view, agrees_history, acks, stores}
use Rattle.protocol.specs.Evidence.{wished}
use Rattle.views.specs.Tally.{place_in, own_in, TallyOf}
use Rattle.views.specs.View.{view_of, ring_of_word}
use Rattle.pool.specs.Pool.{stmt_at, record_up_to, record_in}
use Rattle.tables.specs.Index.{Empty}
use Rattle.votes.specs.declared.Gathered.{Gathered}

-- The statement is a vote.
unfoldable pub is_vote : Stmt → Bool
is_vote s = is_kind 3 s || is_kind 4 s || is_kind 7 s || is_kind 8 s

-- s says the same as the vote a: at the same view, for the same view, history, or payload of the same notice.
unfoldable pub alike : Stmt → Stmt → Bool
alike a s =
    is_kind 3 a && agrees_view a.at a.view s || is_kind 4 a && agrees_history a.at a.views s
    || is_kind 7 a && acks a.at a.notice (payload_of a) s || is_kind 8 a && stores a.at a.notice (payload_of a) s

-- The notice that a vote is about: that of an ack or a store. Those for views and histories are about none, whatever stands in the field.
unfoldable pub notice_of : Stmt → ℕ
notice_of s = if leb 7 s.kind then s.notice else 0

-- The tag of a vote: its kind, and above it the notice that it is about.
unfoldable pub tag_by : Stmt → ℕ
tag_by s = s.kind + notice_of s * 256

-- Entry i of a record.
abbrev pub entry : List ℕ → List ℕ → ℕ → Stmt
entry W ids i = stmt_at W (get_or ids i 0)

-- A group is a word: the tally of its votes (crates/views/specs/Tally.antt), whose owner's bits are their tag. It stands for the vote at its place, the last that was counted.

-- The vote that group g stands for.
abbrev pub vote_at : List ℕ → List ℕ → List ℕ → ℕ → Stmt
vote_at W ids G g = entry W ids (place_in (get_or G g 0))

-- The group x of the votes like a has the count of those in X: who is missing for a quorum, or after how many statements it was complete.
abbrev pub GroupCounts : ℕ → Stmt → List Stmt → Type 0
GroupCounts x a X = TallyOf a.at (alike a) X x

-- The votes of the first len entries are in the n groups of G.
pub record Groups (W ids : List ℕ) (len : ℕ) (G : List ℕ) (n : ℕ) : Type 0 where
  pub most : n ≤ 512
  pub place : (g : ℕ) → g < n → place_in (get_or G g 0) < min len 512
  pub vote : (g : ℕ) → g < n → T (is_vote (vote_at W ids G g))
  pub tag : (g : ℕ) → g < n → own_in (get_or G g 0) ≡ tag_by (vote_at W ids G g)
  pub counts : (g : ℕ) → g < n → GroupCounts (get_or G g 0) (vote_at W ids G g) (record_up_to W ids len)
  pub covers : (i : ℕ) → i < min len 512 → T (is_vote (entry W ids i)) → (g : ℕ) × (g < n) × T (alike (vote_at W ids G g) (entry W ids i))

-- The votes of a record in memory are in the n groups of G.
abbrev pub GroupsIn : List ℕ → List ℕ → List ℕ → ℕ → Type 0
GroupsIn W ids G n = Groups W ids (get_or ids 512 0) G n

-- What gathering leaves: the groups, the view that the record wishes, and still no row in the second of the tables R.
pub record GatheredOf (W ids : List ℕ) (init : ℕ) (G R : List ℕ) (r : Gathered) : Type 0 where
  pub groups : GroupsIn W ids G r.groups
  pub wished : view_of r.wished ≡ wished (ring_of_word init) (record_in W ids)
  pub empty : Empty R 1
