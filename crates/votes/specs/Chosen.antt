-- The groups of votes that go into the tables: choices of views and agreements to histories, each by a quorum.
-- Assumes nothing.
use Rattle.std.specs.Prelude.{◌≡◌, Bool, true, false, Option, Some, None, not, ◌&&◌, List, ℕ, ◌≤◌, ◌<◌, T, get_or}
use Rattle.protocol.specs.Lists.{any}
use Rattle.protocol.specs.View.{View, Ring, same_view, has_members, within, below}
use Rattle.protocol.specs.History.{top, is_history}
use Rattle.protocol.specs.Statement.{Stmt, is_kind, agrees_view, agrees_history}
use Rattle.protocol.specs.Evidence.{wished, signed_by_quorum}
use Rattle.views.specs.View.{view_of, ring_of_word}
use Rattle.views.specs.Tally.{place_in}
use Rattle.pool.specs.Pool.{record_in}
use Rattle.tables.specs.Index.{number_at, key_at, SameRows, SameKeys, Indexed}
use Rattle.votes.specs.Votes.{vote_at}
use Rattle.votes.specs.Tables.{IsWord}

-- s is an agree-view, and `complete` says whether a quorum of its at signed it: it chose a view above it that has members and lies within w.
unfoldable pub choice_by : View → Bool → Stmt → Bool
choice_by w complete s = is_kind 3 s && complete && below 16 s.at s.view && has_members 16 s.view && within 16 s.view w

-- s is an agree-history, and `complete` says the same: it agreed to a history that holds it, not as its top.
unfoldable pub agreement_by : Ring → Bool → Stmt → Bool
agreement_by R complete s = is_kind 4 s && complete && any (same_view s.at) s.views && not (same_view s.at (top R s.views)) && is_history R s.views

-- The same by the statements of X.
module _ (R : Ring) (X : List Stmt) where
  unfoldable pub is_choice : Stmt → Bool
  is_choice s = is_kind 3 s && signed_by_quorum 16 X s.at (agrees_view s.at s.view) && below 16 s.at s.view && has_members 16 s.view && within 16 s.view (wished R X)

  unfoldable pub is_agreement : Stmt → Bool
  is_agreement s =
      is_kind 4 s && signed_by_quorum 16 X s.at (agrees_history s.at s.views) && any (same_view s.at) s.views && not (same_view s.at (top R s.views))
      && is_history R s.views

-- Of the groups below n those that have P are in m rows, and nothing else is.
pub record Picked (P : ℕ → Bool) (Row : ℕ → ℕ → Type 0) (n m : ℕ) : Type 0 where
  pub fewer : m ≤ n
  pub sound : (c : ℕ) → c < m → (g : ℕ) × (g < n) × T (P g) × Row c g
  pub complete : (g : ℕ) → g < n → T (P g) → (c : ℕ) × (c < m) × Row c g

module _ (W ids G : List ℕ) (t : ℕ) (of : Stmt → View) where
  -- Row c of table t is that of group g: its key is the word of the view `of` the group's votes.
  pub record GroupRow (K R : List ℕ) (c g : ℕ) : Type 0 where
    pub view : view_of (key_at K t c) ≡ of (vote_at W ids G g)
    pub word : IsWord (key_at K t c)
    pub statement : number_at R t c ≡ get_or ids (place_in (get_or G g 0)) 0

  -- Those of the groups below n whose votes have `test` are the m rows of table t.
  pub record GroupRows (test : Stmt → Bool) (n : ℕ) (K R : List ℕ) (m : ℕ) : Type 0 where
    pub index : Indexed K R t m
    pub picked : Picked (λ g. test (vote_at W ids G g)) (GroupRow K R) n m

-- The choices are in the first table, by the views that they are for; the agreements in the second, by the tops of their histories.

abbrev pub Choices : List ℕ → List ℕ → ℕ → List ℕ → ℕ → List ℕ → List ℕ → ℕ → Type 0
Choices W ids init G n K R choice_count = GroupRows W ids G 0 (λ s. s.view) (is_choice (ring_of_word init) (record_in W ids)) n K R choice_count

abbrev pub Agreements : List ℕ → List ℕ → ℕ → List ℕ → ℕ → List ℕ → List ℕ → ℕ → Type 0
Agreements W ids init G n K R agreement_count = GroupRows W ids G 1 (λ s. top (ring_of_word init) s.views) (is_agreement (ring_of_word init) (record_in W ids)) n K R agreement_count

-- ---- how they go there

-- The number of the statement that group g stands for.
abbrev pub number_of : List ℕ → List ℕ → ℕ → ℕ
number_of ids G g = get_or ids (place_in (get_or G g 0)) 0

-- The n groups stand for entries of a record.
pub record Placed (G : List ℕ) (n : ℕ) : Type 0 where
  pub most : n ≤ 512
  pub place : (g : ℕ) → g < n → place_in (get_or G g 0) < 512

-- What is answered of a group's statement and tally: the word of the view `of` its votes where they have `test`, and otherwise None.
pub record Answers (W ids G : List ℕ) (of : Stmt → View) (test : Stmt → Bool) (n : ℕ) (answers : ℕ → ℕ → Option ℕ → Type 0) : Type 0 where
  pub some : (g w : ℕ) → g < n → answers (number_of ids G g) (get_or G g 0) (Some w) → (test (vote_at W ids G g) ≡ true) × (view_of w ≡ of (vote_at W ids G g)) × IsWord w
  pub none : (g : ℕ) → g < n → answers (number_of ids G g) (get_or G g 0) None → test (vote_at W ids G g) ≡ false

-- r is the word of the view v where b holds, and otherwise None.
pub record WordIf (b : Bool) (v : View) (r : Option ℕ) : Type 0 where
  pub some : (w : ℕ) → r ≡ Some w → (b ≡ true) × (view_of w ≡ v) × IsWord w
  pub none : r ≡ None → b ≡ false

-- Nothing changed but table t.
pub record OtherTables (t : ℕ) (K R K' R' : List ℕ) : Type 0 where
  pub keys : (u : ℕ) → u < 2 → (u ≡ t → ⊥) → SameKeys K K' u
  pub rows : (u : ℕ) → u < 2 → (u ≡ t → ⊥) → SameRows R R' u
