-- What is promised of the rows that are printed for a schedule (document 01, "A run" and "Bench schedule"; document 02, A1).
-- Lines are counted from 0 here; the row of line n has the number n + 1.
-- A row of a delivery shows its payload, neither its notice nor the set behind its store quorum. So the promises by notice and of the sets are about the rows and the replies that
-- they show, and beside them stands what a reader of the rows alone has (`ReadOff`).
-- Assumes nothing.
use Rattle.std.specs.Prelude.{◌≡◌, ◌&&◌, List, ℕ, suc, ◌-◌, ◌/◌, ◌≤◌, T, length, take}
use Rattle.std.proofs.Math.Option.{Option, some}
use Rattle.std.proofs.Math.ListN.{get_elem?}
use Rattle.protocol.specs.Sets.{bit, count}
use Rattle.protocol.specs.View.{controllers, View, is_view, member, member_count}
use Rattle.protocol.specs.History.{top}
use Rattle.protocol.specs.Statement.{Stmt, no_stmt}
use Rattle.protocol.specs.Evidence.{Sealed, sender_of}
use Rattle.protocol.specs.Controller.{Answer, taken, signed, entered, delivered, left, quiet, refused}
use Rattle.protocol.specs.Call.{Setup, ring_of}
use Rattle.protocol.specs.Promises.{Observed, Promises, DeliveredSets, NoConflict}
use Rattle.schedule.specs.Line.{Line, setup, lines}
use Rattle.bench.specs.Bench.{Reply, new_bench, step, seat}
use Rattle.bench.specs.Rows.{row_text, ReadAll, Printed, Answered}
use Rattle.guarantee.specs.Events.{follower, after}

-- The text has the row of the reply r for line n: before it stand the header and the rows of the lines before.
abbrev pub InText : List ℕ → ℕ → Reply → Type 0
InText out n r = get_elem? (lines out) (suc n) ≡ some (row_text (suc n) r)

-- The answer that was given, where a row says a: all but the notice and the set of a delivery.
abbrev pub Meant : Answer → Answer → Type 0
Meant taken b = b ≡ taken
Meant (signed s) b = b ≡ signed s
Meant (entered v) b = b ≡ entered v
Meant (delivered i m who) b = (notice : ℕ) × ((set : ℕ) × (b ≡ delivered notice m set))
Meant left b = b ≡ left
Meant quiet b = b ≡ quiet
Meant (refused r) b = b ≡ refused r

-- The row of line n is that of a delivery of m by controller k, which is not marked. It is the same for every notice and every set.
pub record Delivered (out : List ℕ) (faulty n k m : ℕ) : Type 0 where
  pub follows : T (follower faulty k)
  pub row : InText out n (record { who = k; answer = delivered 0 m 0; number = 0 })

module _ (L : List (Option Line)) where
  -- The reply to line n is r.
  pub record RepliedTo (n : ℕ) (r : Reply) : Type 0 where
    pub line : Option Line
    pub there : get_elem? L n ≡ some line
    pub reply : (step (after L n) line).reply ≡ r

  -- The reply to line n is r, and the text has its row.
  pub record ShownRow (out : List ℕ) (n : ℕ) (r : Reply) : Type 0 where
    pub reply : RepliedTo n r
    pub row : InText out n r

  -- The pool after the last line: "The run's statements are those that its turns signed and those of the signings."
  abbrev pub final_pool : List Stmt
  final_pool = (after L (length L)).pool

  -- Of the members of each sealed top by the final pool at most floor((n - 1) / 3) are marked faulty.
  pub record FewFaulty (members faulty : ℕ) : Type 0 where
    pub few : (H : List View) → Sealed (ring_of members) final_pool H
        → count controllers (λ k. member (top (ring_of members) H) k && bit faulty k) ≤ (member_count controllers (top (ring_of members) H) - 1) / 3

  -- What the value of a row stands for: "the statement number for signed", that of s in the final pool; "the view for entered".
  abbrev pub Names : Answer → ℕ → Type 0
  Names taken number = Unit {0}
  Names (signed s) number = get_elem? final_pool number ≡ some s
  Names (entered v) number = T (is_view controllers v)
  Names (delivered i m who) number = Unit {0}
  Names left number = Unit {0}
  Names quiet number = Unit {0}
  Names (refused r) number = Unit {0}

  -- A row is taken by its reply (`RepliedTo`), as it stands in the text that is printed (`InText`), or as both (`ShownRow`).
  module _ (Row : ℕ → Reply → Type 0) where
    -- The row of line n names controller k and answers a, and its value stands for what a carries.
    pub record Says (n k : ℕ) (a : Answer) : Type 0 where
      pub number : ℕ
      pub row : Row n (record { who = k; answer = a; number = number })
      pub names : Names a number

    -- Line n is this setup, and its row answers taken: "its row shows notice 0's".
    pub record SetupTaken (n : ℕ) (p : Setup) (faulty : ℕ) : Type 0 where
      pub line : get_elem? L n ≡ some (some (setup p faulty))
      pub taken : Says n (sender_of p.senders 0) taken

    module _ (p : Setup) (faulty : ℕ) where
      -- What is seen of the ring in its rows. Those who are not marked faulty follow the rules; what comes n-th is line n, and its row has the answer:
      -- a row `signed`, `entered`, `delivered` or `refused,7` is that of a turn.
      abbrev pub rows : Observed
      rows = record {
        follows = follower faulty;
        ring = ring_of p.members;
        senders = p.senders;
        statements = final_pool;
        Answers = Says;
        record_of = λ k n. (seat (after L n) k).statements;
      }

      -- Demand 3 holds of the rows, the set of each delivery is the one behind its store quorum, by the record of that controller before the line, and no row of a controller
      -- that is not marked is `refused,7`.
      pub record Kept : Type 0 where
        pub promises : Promises rows
        pub sets : DeliveredSets rows
        pub no_conflict : NoConflict rows

  module _ (out : List ℕ) (p : Setup) (faulty : ℕ) where
    -- What a reader has of the rows alone.
    pub record ReadOff : Type 0 where
      -- What the row of a controller that is not marked says was answered, a delivery with some notice and some set; by the promise `of_setup` this notice is one of the
      -- setup, by `no_duplication` two rows of one controller that are of one notice are one row, and by `sets` the set is the one behind the store quorum.
      pub answered : (n k : ℕ) (a : Answer) → T (follower faulty k) → Says (InText out) n k a → (b : Answer) × Meant a b × Says (ShownRow out) n k b
      -- A row is of one notice, and of one set.
      pub one_notice : (n k i j m m' a b : ℕ) → Says (ShownRow out) n k (delivered i m a) → Says (ShownRow out) n k (delivered j m' b) → i ≡ j
      pub one_set : (n k i j m m' a b : ℕ) → Says (ShownRow out) n k (delivered i m a) → Says (ShownRow out) n k (delivered j m' b) → a ≡ b
      -- A row `signed,number` is of the statement of that number in the final pool, which has its notice.
      pub signed : (n k number : ℕ) → InText out n (record { who = k; answer = signed no_stmt; number = number }) → (s : Stmt) × (get_elem? final_pool number ≡ some s) × Says (ShownRow out) n k (signed s)
      -- No row of a controller that is not marked is `refused,7`.
      pub no_conflict : NoConflict (rows (InText out) p faulty)
      -- In a ring of one notice all deliveries are of one payload, and each controller has at most one.
      pub consistency : length p.senders ≡ 1 → (i j m n k m' : ℕ) → Delivered out faulty i j m → Delivered out faulty n k m' → m ≡ m'
      pub no_duplication : length p.senders ≡ 1 → (i n k m m' : ℕ) → Delivered out faulty i k m → Delivered out faulty n k m' → i ≡ n

-- What is promised of a text `out`, as that of a schedule which is not too long: for its reading, where a setup is taken and few are marked faulty.
-- A schedule has one reading (`read-all-one` in crates/bench).
abbrev pub Promised : List ℕ → List ℕ → Type 0
Promised schedule out =
    length schedule ≤ 65536 → (L : List (Option Line)) → ReadAll new_bench (lines schedule) L
    → (first : ℕ) (p : Setup) (faulty : ℕ) → SetupTaken L (InText out) first p faulty → FewFaulty L p.members faulty
    → Kept L (ShownRow L out) p faulty × ReadOff L out p faulty

-- The promise, of the text that is printed for a schedule; it is one (`printed-one` in crates/bench).
abbrev pub Guarantee : Type 0
Guarantee = (schedule out : List ℕ) → Printed schedule out → Promised schedule out

-- The same of what `run` of crates/bench leaves in memory that has room for it: r is the number that it answers.
abbrev pub InMemory : Type 0
InMemory = (schedule rows : List ℕ) (r : ℕ) (memory : List ℕ) (a : Answered schedule rows r memory) → length a.text ≤ length rows → Promised schedule (take r memory)
