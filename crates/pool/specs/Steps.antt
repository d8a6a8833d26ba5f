-- What the functions of a search and of a write tell each other.
-- Assumes nothing.
use Rattle.std.specs.Prelude.{◌≡◌, Bool, true, cond, not, ◌&&◌, ◌||◌, List, ℕ, ◌+◌, ◌*◌, ◌/◌, ◌%◌, ◌≤◌, ◌<◌, min, eqb, ltb}
use Rattle.protocol.specs.Sets.{bit, set_of}
use Rattle.protocol.specs.View.{same_view}
use Rattle.protocol.specs.Statement.{Stmt}
use Rattle.views.specs.View.{view_of}
use Rattle.views.specs.Held.{view_is}
use Rattle.statements.specs.declared.Statement.{Statement}
use Rattle.statements.specs.Block.{group_at}
use Rattle.statements.specs.Meaning.{stmt_of}
use Rattle.pool.specs.Pool.{told_at, stmt_at}
use Rattle.pool.specs.Changes.{head_by, head_of, put_at}

-- The statement s has another kind, origin or notice than the number key, or another at than the word t.
unfoldable pub is_other : Stmt → ℕ → ℕ → Bool
is_other s key t = not (eqb (head_of s) key) || not (same_view s.at (view_of t))

-- The word w is the head of the statement s with c views and g groups.
pub record IsHead (w : ℕ) (s : Stmt) (c g : ℕ) : Type 0 where
  pub kind : w % 256 ≡ s.kind
  pub origin : w / 256 % 256 ≡ s.origin
  pub notice : w / 65536 % 256 ≡ s.notice
  pub count : min (w / 16777216 % 256) 16 ≡ c
  pub groups : min (w / 4294967296 % 256) 64 ≡ g

-- How many groups a statement of this kind has.
abbrev pub groups_many : ℕ → ℕ → ℕ
groups_many kind groups = cond (eqb kind 5) (min groups 64) 1

-- The head of a Statement, which no block changes.
abbrev pub head_of_held : Statement → ℕ
head_of_held st = head_by st.kind st.origin st.notice

-- key, at and view are the numbers of the head of st, of its at and of its view. Its kind and its origin are bytes.
pub record Sought (st : Statement) (key at view : ℕ) : Type 0 where
  pub head : key ≡ head_of_held st
  pub place : view_of at ≡ view_is st.at
  pub seen : view_of view ≡ view_is st.view
  pub small : (st.kind < 256) × (st.origin < 256)

abbrev pub head_word_of_held : Statement → ℕ
head_word_of_held st = head_of_held st + min st.history.len 16 * 16777216 + groups_many st.kind st.groups * 4294967296

-- The set of the first c that have q.
abbrev pub first_bits : ℕ → (ℕ → Bool) → ℕ
first_bits c q = set_of 64 (λ j. ltb j c && q j)

-- j is in x and not in y.
abbrev pub bit_without : ℕ → ℕ → ℕ → Bool
bit_without x y j = bit x j && not (bit y j)

-- If r is true, the block B tells of every notice what report n does.
abbrev pub SaysAlike : Bool → List ℕ → List ℕ → ℕ → Type 0
SaysAlike r B W n = r ≡ true → (j : ℕ) → group_at B j ≡ told_at W n j

-- Statement n is st with the block B now. A number above 511 counts as 511.
pub record Put (W W' : List ℕ) (n : ℕ) (st : Statement) (B : List ℕ) : Type 0 where
  pub is : W' ≡ put_at W (min n 511) (stmt_of st B)
  pub there : st.history.len ≤ 16 → stmt_at W' n ≡ stmt_of st B
