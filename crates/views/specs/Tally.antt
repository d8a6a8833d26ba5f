-- Counting a quorum of a view while its members sign, in one word (document 02, A3: "Let the count end with the signer who completes it").
-- Assumes nothing.
use Rattle.std.specs.Prelude.{◌≡◌, ◌⊎◌, Bool, true, false, not, ◌&&◌, ◌||◌, List, ℕ, ◌+◌, ◌/◌, ◌%◌, ◌≤◌, ◌<◌, eqb}
use Rattle.protocol.specs.Sets.{bit}
use Rattle.protocol.specs.View.{View, member, quorum, member_count, has_members}
use Rattle.protocol.specs.Statement.{Stmt}
use Rattle.protocol.specs.Evidence.{signs, tally}
use Rattle.protocol.specs.Count as protocol
use Rattle.protocol.specs.Count.{count_quorum}
use Rattle.views.specs.declared.tally.Count.{Count}

-- A tally is a word: 10 bits are the place of the statement that was counted last, the next 6 how many members are missing for a quorum, the next 32 the members that have not
-- signed, and the rest is its owner's.

unfoldable pub place_in : ℕ → ℕ
place_in x = x % 1024

unfoldable pub missing_in : ℕ → ℕ
missing_in x = x / 1024 % 64

unfoldable pub waiting_in : ℕ → ℕ
waiting_in x = x / 65536 % 4294967296

unfoldable pub own_in : ℕ → ℕ
own_in x = x / 281474976710656

-- So many members of v are missing before anybody signed: a quorum. In a view without members one always is.
pub record Needed (v : View) (r : ℕ) : Type 0 where
  pub some : has_members 16 v ≡ true → r ≡ quorum (member_count 16 v)
  pub none : has_members 16 v ≡ false → r ≡ 1
  pub few : r ≤ 16

-- x is the tally at t where those in `who` signed: who of its members has not, and how many of these are missing for a quorum.
pub record Tallied (t : View) (who : ℕ → Bool) (x : ℕ) : Type 0 where
  pub waiting : (k : ℕ) → k < 16 → bit (waiting_in x) k ≡ (member t k && not (who k))
  pub missing : has_members 16 t ≡ true → missing_in x + tally 16 t who ≡ quorum (member_count 16 t)
  pub never : has_members 16 t ≡ false → missing_in x ≡ 1

-- r is x, or has counted o, who signed the statement at this place. Nobody is counted once no member is missing.
pub record Signed (x o place r : ℕ) : Type 0 where
  pub own : own_in r ≡ own_in x
  pub either : (r ≡ x) ⊎ (place_in r ≡ place)
  pub closed : missing_in x ≡ 0 → r ≡ x
  pub tallied : (t : View) (who : ℕ → Bool) → 0 < missing_in x → Tallied t who x → Tallied t (λ k. who k || eqb o k) r

-- The word x has the count of those who signed, at t, statements of X that have p: who is missing, or after how many statements a quorum was complete.
pub record TallyOf (t : View) (p : Stmt → Bool) (X : List Stmt) (x : ℕ) : Type 0 where
  pub waits : 0 < missing_in x → Tallied t (signs p X) x
  pub done : missing_in x ≡ 0 → count_quorum 16 t p X ≡ record { reached = true; read = place_in x + 1 }

-- The count that a struct stands for.
abbrev pub count_is : Count → protocol.Count
count_is c = record { reached = c.reached; read = c.read }
