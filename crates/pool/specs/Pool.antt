-- What lent memory means: statements in a pool, and a record as a list of pool numbers.
-- The pool has 512 statements in columns, so that a scan over kinds reads neighbouring words. Word n is the head of statement n: its bytes, the lowest first, are the kind,
-- the origin, the notice, the count of the views and the count of the groups; the others mean nothing. A report tells of each notice what the sets bound, barred and stored,
-- bit j for notice j, and a pair of words say; every other kind has a payload in a column of its own. The last word is the number of statements.
-- Every memory means some pool: each word is read as the value below that it can stand for, and nothing has to hold of it.
-- Assumes nothing.
use Rattle.std.specs.Prelude.{◌≡◌, cond, List, [], ◌∷◌, ℕ, ◌+◌, ◌*◌, ◌/◌, ◌%◌, ◌≤◌, ◌<◌, min, eqb, get_or}
use Rattle.protocol.specs.Lists.{when, list_of}
use Rattle.protocol.specs.Sets.{bit}
use Rattle.protocol.specs.View.{View}
use Rattle.protocol.specs.Statement.{Group, Stmt, only, tells}
use Rattle.views.specs.View.{view_in}
use Rattle.statements.specs.Block.{bound_or_barred}

-- Where the columns after the heads start: a word of each statement. The payload is that of every kind but a report.

abbrev pub at_from : ℕ
at_from = 512

abbrev pub view_from : ℕ
view_from = 1024

abbrev pub payload_from : ℕ
payload_from = 1536

abbrev pub bound_from : ℕ
bound_from = 2048

abbrev pub barred_from : ℕ
barred_from = 2560

abbrev pub stored_from : ℕ
stored_from = 3072

-- Where the views start, 16 words of each statement, and what is told of each notice, 128 words of each statement.

abbrev pub views_from : ℕ
views_from = 3584

abbrev pub told_from : ℕ
told_from = 11776

-- Where the number of statements is, and how many words there are.

abbrev pub last_word : ℕ
last_word = 77312

abbrev pub pool_words : ℕ
pool_words = 77313

-- The head of statement n. A number above 511 counts as 511, here and below.
unfoldable pub head_at : List ℕ → ℕ → ℕ
head_at W n = get_or W (min n 511) 0

-- The word of statement n in the column that starts at word f.
unfoldable pub word : List ℕ → ℕ → ℕ → ℕ
word W n f = get_or W (min n 511 + f) 0

-- The word of view p of statement n.
unfoldable pub view_word : List ℕ → ℕ → ℕ → ℕ
view_word W n p = get_or W (views_from + min n 511 * 16 + p) 0

-- How many views statement n has. A count above 16 counts as 16.
unfoldable pub count_of : List ℕ → ℕ → ℕ
count_of W n = min (head_at W n / 16777216 % 256) 16

-- View p of statement n, of the sixteen controllers alone.
abbrev pub view_at : List ℕ → ℕ → ℕ → View
view_at W n p = view_in (view_word W n p)

-- ---- what a report tells

-- Of how many notices report n tells. A count above 64 counts as 64.
unfoldable pub group_count : List ℕ → ℕ → ℕ
group_count W n = min (head_at W n / 4294967296 % 256) 64

-- The sets of the notices that it tells are bound, are barred, and have a payload stored.

abbrev pub told_bound : List ℕ → ℕ → ℕ
told_bound W n = word W n bound_from

abbrev pub told_barred : List ℕ → ℕ → ℕ
told_barred W n = word W n barred_from

abbrev pub told_stored : List ℕ → ℕ → ℕ
told_stored W n = word W n stored_from

-- The payload to which it tells notice j is bound, and the one kept of it.

unfoldable pub told_payload : List ℕ → ℕ → ℕ → ℕ
told_payload W n j = get_or W (told_from + min n 511 * 128 + 2 * j) 0

unfoldable pub told_kept : List ℕ → ℕ → ℕ → ℕ
told_kept W n j = get_or W (told_from + min n 511 * 128 + 2 * j + 1) 0

-- What sets and payloads tell of notice j. One both bound and barred counts as barred, and a payload is kept only where it is stored.
unfoldable pub told_by : ℕ → ℕ → ℕ → (ℕ → ℕ) → (ℕ → ℕ) → ℕ → Group
told_by bound barred stored payload kept j = tells (bound_or_barred (bit bound j) (bit barred j) (payload j)) (when (bit stored j) (kept j))

-- What report n tells of notice j.
abbrev pub told_at : List ℕ → ℕ → ℕ → Group
told_at W n j = told_by (told_bound W n) (told_barred W n) (told_stored W n) (told_payload W n) (told_kept W n) j

-- The groups of statement n. Past the count nothing is told.
unfoldable pub groups_at : List ℕ → ℕ → List Group
groups_at W n = cond (eqb (head_at W n % 256) 5) (list_of (group_count W n) (told_at W n)) (only (word W n payload_from) ∷ [])

-- ---- statements

-- Statement n of the pool.
unfoldable pub stmt_at : List ℕ → ℕ → Stmt
stmt_at W n = record {
  kind = head_at W n % 256;
  origin = head_at W n / 256 % 256;
  at = view_in (word W n at_from);
  view = view_in (word W n view_from);
  notice = head_at W n / 65536 % 256;
  groups = groups_at W n;
  views = list_of (count_of W n) (view_at W n);
}

-- How many statements the pool has. A number above 512 counts as 512.
unfoldable pub pool_len : List ℕ → ℕ
pool_len W = min (get_or W last_word 0) 512

-- The pool's statements.
unfoldable pub pool_of : List ℕ → List Stmt
pool_of W = list_of (pool_len W) (stmt_at W)

-- The record of the first len numbers. A length above 512 counts as 512.
unfoldable pub record_up_to : List ℕ → List ℕ → ℕ → List Stmt
record_up_to W ids len = list_of (min len 512) (λ i. stmt_at W (get_or ids i 0))

-- A record in memory is 513 numbers: those of its statements, and in the last place how many of them count.

abbrev pub record_len : List ℕ → ℕ
record_len R = min (get_or R 512 0) 512

abbrev pub record_in : List ℕ → List ℕ → List Stmt
record_in W R = record_up_to W R (get_or R 512 0)

-- Every statement of the record in the memory R is one of the pool. A record that calls left has this; one that a caller made up need not.
unfoldable pub AllIn : List ℕ → List ℕ → Type 0
AllIn W R = (i : ℕ) → i < record_len R → get_or R i 0 < pool_len W

-- The pool of W' has all that the pool of W has, under the same numbers.
pub record Grows (W W' : List ℕ) : Type 0 where
  pub more : pool_len W ≤ pool_len W'
  pub same : (n : ℕ) → n < pool_len W → stmt_at W' n ≡ stmt_at W n
