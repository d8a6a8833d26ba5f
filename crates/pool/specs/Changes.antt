-- What writing to the pool does, and where a statement is found in it.
-- Every word after it is fixed: a statement is written in one way, and no other word changes, not even a place after its last view.
-- Assumes nothing.
use Rattle.std.specs.Prelude.{◌≡◌, Bool, cond, ◌||◌, List, ◌∷◌, [], ◌++◌, map, ℕ, ◌+◌, ◌-◌, ◌*◌, ◌/◌, ◌%◌, ◌≤◌, ◌<◌, min, eqb, leb, ltb, length, get_or, set, take, if◌then◌else◌, Result, Ok, Err}
use Rattle.std.proofs.Math.Option.{Option, some, none}
use Rattle.std.proofs.lemmas.List.Edits.{sets}
use Rattle.protocol.specs.Lists.{find, is_some, list_of}
use Rattle.protocol.specs.Sets.{set_of}
use Rattle.protocol.specs.Statement.{Group, Stmt, no_group, same_stmt}
use Rattle.views.specs.View.{word_of}
use Rattle.statements.specs.declared.Statement.{Statement}
use Rattle.statements.specs.Meaning.{stmt_of}
use Rattle.pool.specs.declared.Full.{Full}
use Rattle.pool.specs.Pool.{at_from, view_from, payload_from, bound_from, barred_from, stored_from, views_from, told_from, last_word, pool_words, stmt_at, pool_len, pool_of, record_len, record_in}

-- The statement that word i is of. It is 512 for the number of statements, which is of none.
unfoldable pub owner : ℕ → ℕ
owner i = if ltb i views_from then i % 512 else if ltb i told_from then (i - views_from) / 16 else (i - told_from) / 128

-- No word changed but those of statement n and the number of statements.
pub record Beside (W W' : List ℕ) (n : ℕ) : Type 0 where
  pub long : length W' ≡ length W
  pub others : (i : ℕ) → (owner i ≡ n → ⊥) → (i ≡ last_word → ⊥) → get_or W' i 0 ≡ get_or W i 0

-- Kind, origin and notice in one number, and those of a statement.

abbrev pub head_by : ℕ → ℕ → ℕ → ℕ
head_by kind origin notice = kind + origin * 256 + notice * 65536

unfoldable pub head_of : Stmt → ℕ
head_of s = head_by s.kind s.origin s.notice

-- The head of a statement. Of more than 16 views it counts 16, and of more than 64 groups 64.
unfoldable pub head_word : Stmt → ℕ
head_word s = head_of s + min (length s.views) 16 * 16777216 + min (length s.groups) 64 * 4294967296

-- ---- what a report tells, in words

-- What a group says of its notice: that it is bound, that it is barred, and that a payload of it is stored.

abbrev pub says_bound : Group → Bool
says_bound g = eqb g.binding 1

abbrev pub says_barred : Group → Bool
says_barred g = eqb g.binding 2

abbrev pub says_stored : Group → Bool
says_stored g = eqb g.stored 1

-- The set of the notices of which a group says it.
unfoldable pub told_set : (Group → Bool) → List Group → ℕ
told_set says l = set_of 64 (λ j. says (get_or l j no_group))

-- Payload and kept, group by group.
unfoldable pub told_words : List Group → List ℕ
told_words [] = []
told_words (g ∷ l) = g.payload ∷ g.kept ∷ told_words l

-- The memory W where statement n is a report that tells these groups. Of more than 64 only 64 are kept.
unfoldable pub report_in : List ℕ → ℕ → List Group → List ℕ
report_in W n l =
    sets (set (set (set W (n + bound_from) (told_set says_bound l)) (n + barred_from) (told_set says_barred l)) (n + stored_from) (told_set says_stored l)) (told_from + n * 128)
    (told_words (take 64 l))

-- The memory W with the groups of statement n, of this kind: those of a report, or a payload.
unfoldable pub groups_in : List ℕ → ℕ → ℕ → List Group → List ℕ
groups_in W n kind l = cond (eqb kind 5) (report_in W n l) (set W (n + payload_from) (get_or l 0 no_group).payload)

-- The memory W with s as statement n. Of more than 16 views only 16 are kept.
unfoldable pub put_at : List ℕ → ℕ → Stmt → List ℕ
put_at W n s =
    groups_in (sets (set (set (set W n (head_word s)) (n + at_from) (word_of s.at)) (n + view_from) (word_of s.view)) (views_from + n * 16) (map word_of (take 16 s.views))) n s.kind
    s.groups

-- ---- one statement more

-- The first number of the pool whose statement is s.
unfoldable pub pool_number : List ℕ → Stmt → Option ℕ
pool_number W s = find (λ i. same_stmt s (stmt_at W i)) (list_of (pool_len W) (λ i. i))

-- What a full pool answers.
abbrev pub no_room : Full
no_room = record {}

-- Where a statement goes that was found there, in a pool of this length: its number is used again, or it goes to the end.
abbrev pub placed_at : Option ℕ → ℕ → Result ℕ Full
placed_at none n = if ltb n 512 then Ok n else Err no_room
placed_at (some i) n = Ok i

-- The memory W after s went into its pool: as before where s was in it or it is full.
unfoldable pub pooled_in : List ℕ → Stmt → List ℕ
pooled_in W s = if is_some (pool_number W s) || leb 512 (pool_len W) then W else set (put_at W (pool_len W) s) last_word (pool_len W + 1)

-- One statement more, which is st with the block B, and all others as before.
pub record Grown (W W' : List ℕ) (st : Statement) (B : List ℕ) : Type 0 where
  pub len : pool_len W' ≡ pool_len W + 1
  pub there : st.history.len ≤ 16 → stmt_at W' (pool_len W) ≡ stmt_of st B
  pub others : (m : ℕ) → (min m 511 ≡ pool_len W → ⊥) → stmt_at W' m ≡ stmt_at W m
  pub beside : Beside W W' (pool_len W)

-- st with the block B is in the pool where r says, and the pool has grown only where st was not in it and there was room.
pub record Appended (W W' : List ℕ) (st : Statement) (B : List ℕ) (r : Result ℕ Full) : Type 0 where
  pub answer : r ≡ placed_at (pool_number W (stmt_of st B)) (pool_len W)
  pub is : W' ≡ pooled_in W (stmt_of st B)
  pub old : (i : ℕ) → pool_number W (stmt_of st B) ≡ some i → W' ≡ W
  pub full : 512 ≤ pool_len W → W' ≡ W
  pub new : pool_number W (stmt_of st B) ≡ none → pool_len W < 512 → Grown W W' st B

-- The pool is empty now: the number of its statements was set to 0.
pub record Cleared (W W' : List ℕ) : Type 0 where
  pub is : W' ≡ set W last_word 0
  pub long : length W' ≡ pool_words
  pub len : pool_len W' ≡ 0
  pub none : pool_of W' ≡ []

-- The memory of a record with the number id at its end. One of 512 stays as it is.
unfoldable pub pushed_to : List ℕ → ℕ → List ℕ
pushed_to R id = if ltb (record_len R) 512 then set (set R (record_len R) id) 512 (record_len R + 1) else R

-- The number id went to the end of the record R, if that had room; every place of its memory is fixed.
pub record PushedTo (R : List ℕ) (id : ℕ) (R' : List ℕ) : Type 0 where
  pub is : R' ≡ pushed_to R id
  pub long : length R' ≡ 513
  pub len : record_len R' ≡ min (record_len R + 1) 512
  pub first : (i : ℕ) → i < record_len R → get_or R' i 0 ≡ get_or R i 0
  pub last : record_len R < 512 → get_or R' (record_len R) 0 ≡ id
  pub means : (W : List ℕ) → record_in W R' ≡ (if ltb (record_len R) 512 then record_in W R ++ (stmt_at W id ∷ []) else record_in W R)

-- The record is empty now: its count was set to 0.
pub record Emptied (R R' : List ℕ) : Type 0 where
  pub is : R' ≡ set R 512 0
  pub long : length R' ≡ 513
  pub len : record_len R' ≡ 0
  pub none : (W : List ℕ) → record_in W R' ≡ []
