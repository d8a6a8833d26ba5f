-- What is told of a count: whether a quorum signed, and how many statements were read.
-- Assumes nothing.
use Rattle.std.specs.Prelude.{◌≡◌, Bool, not, ◌&&◌, List, [], ◌∷◌, ℕ, T, ltb, length, if◌then◌else◌}
use Rattle.protocol.specs.View.{View, Ring}
use Rattle.protocol.specs.Statement.{Stmt}
use Rattle.protocol.specs.Evidence.{candidates, is_conflict, is_counted_on}
use Rattle.protocol.specs.Count.{Count, count_quorum}
use Rattle.protocol.specs.Signers.{signers, store_set}
use Rattle.pekdrav.specs.Evidence.{flag}

-- Two words.
abbrev pub count_words : Count → List ℕ
count_words c = flag c.reached ∷ c.read ∷ []

-- Reports are judged where a turn goes on: it gets neither 7 nor 6.
unfoldable pub judges : Ring → List ℕ → List Stmt → Bool
judges R senders X = not (is_conflict R senders X) && not (ltb 16 (length (candidates R X)))

-- r was answered for a value that is told only where something was judged, over memory that held `before` and holds `after` then: 1 and the value, or 0 and what it held.
pub record ToldWhere {A : Type 0} (judged : Bool) (value before : A) (r : ℕ) (after : A) : Type 0 where
  pub told : T judged → (r ≡ 1) × (after ≡ value)
  pub untold : T (not judged) → (r ≡ 0) × (after ≡ before)

module _ (R : Ring) (senders : List ℕ) (X : List Stmt) (u : View) where
  -- The count of the reports on u that count.
  abbrev pub ReportsTold : List ℕ → ℕ → List ℕ → Type 0
  ReportsTold = ToldWhere (judges R senders X) (count_words (count_quorum R.width u (is_counted_on R senders X u) X))

  -- The set of those who signed them.
  abbrev pub ReportersTold : ℕ → ℕ → ℕ → Type 0
  ReportersTold = ToldWhere (judges R senders X) (signers R.width X u (is_counted_on R senders X u))

-- The set behind a store quorum, in a ring with these senders: a notice that the setup lacks has none.
unfoldable pub stores_of : Ring → List ℕ → List Stmt → ℕ → ℕ → ℕ
stores_of R senders X i m = if ltb i (length senders) then store_set R X i m else 0
