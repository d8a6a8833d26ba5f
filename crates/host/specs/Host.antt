-- What is promised of a call on a controller in lent memory.
-- Assumes nothing.
use Rattle.std.specs.Prelude.{◌≡◌, List, [], ◌∷◌, ℕ, ◌≤◌, Result, Ok, Err}
use Rattle.protocol.specs.Statement.{Stmt}
use Rattle.protocol.specs.Controller as controller
use Rattle.protocol.specs.Call as call
use Rattle.protocol.specs.Run.{Call}
use Rattle.protocol.specs.Turn.{turn}
use Rattle.protocol.specs.Pool.{has_room}
use Rattle.engine.specs.declared.Controller.{Controller}
use Rattle.engine.specs.declared.Answer.{Answer}
use Rattle.engine.specs.declared.Refusal.{Refusal}
use Rattle.engine.specs.declared.Answer.TheVariants.{Taken, Signed, Entered, Delivered, Left, Quiet}
use Rattle.views.specs.View.{word_of}
use Rattle.pool.specs.Pool.{record_len, record_in, pool_of}
use Rattle.engine.specs.Meaning.{controller_is, Came, signed_number, answer_is}
use Rattle.engine.specs.Promise.{unchanged, Meets, Starts, Turns, Adds, Called}
use Rattle.host.specs.Statement.{IsStatement}
use Rattle.host.specs.Memory.{notices_in, controller_at}

-- ---- answers in numbers

-- A value in one word, a view as its word in the pool: who joined, and 32 bits above who left.
abbrev pub value_word : controller.Value → ℕ
value_word (controller.number n) = n
value_word (controller.view v) = word_of v

-- The notice that was delivered.
abbrev pub notice_number : Result Answer Refusal → ℕ
notice_number (Ok Taken) = 0
notice_number (Ok (Signed n)) = 0
notice_number (Ok (Entered v)) = 0
notice_number (Ok (Delivered i m who)) = i
notice_number (Ok Left) = 0
notice_number (Ok Quiet) = 0
notice_number (Err r) = 0

-- The set of those behind the store quorum of what was delivered, bit k for controller k.
abbrev pub set_number : Result Answer Refusal → ℕ
set_number (Ok Taken) = 0
set_number (Ok (Signed n)) = 0
set_number (Ok (Entered v)) = 0
set_number (Ok (Delivered i m who)) = who
set_number (Ok Left) = 0
set_number (Ok Quiet) = 0
set_number (Err r) = 0

-- The answer's number, 0 to 6, and the value beside it. The pool does not matter to them.
unfoldable pub answer_number : Result Answer Refusal → ℕ
answer_number a = controller.answer_word (answer_is [] a)

unfoldable pub value_number : Result Answer Refusal → ℕ
value_number a = value_word (controller.answer_value (signed_number a) (answer_is [] a))

-- What is told beside the answer's number: the value, the notice and the set.
abbrev pub value_words : Result Answer Refusal → List ℕ
value_words a = value_number a ∷ notice_number a ∷ set_number a ∷ []

-- ---- calls

-- A call on the controller of F with the record R has the answer and the value, and leaves F' and R': they are those of an outcome that the engine's promise `Met` allows.
pub record Hosted (Met : Came → Type 0) (F R : List ℕ) (answer : ℕ) (F' R' value : List ℕ) : Type 0 where
  pub outcome : Came
  pub met : Met outcome
  pub answered : answer ≡ answer_number outcome.answer
  pub valued : value ≡ value_words outcome.answer
  pub held : controller_at F' ≡ outcome.controller
  -- Where nothing was done (left, quiet, refused) both are "as before", to the last word.
  pub idle : 4 ≤ answer → (F' ≡ F) × (R' ≡ R)

-- The memory means a controller before setup, with an empty record.
pub record Fresh (F R : List ℕ) : Type 0 where
  pub controller : controller_is (controller_at F) ≡ controller.not_set_up
  pub statements : record_len R ≡ 0

abbrev pub SetUpOn : ℕ → call.Setup → List ℕ → List ℕ → Controller → Came → Type 0
SetUpOn number s R R' c r = Starts (λ X. call.setup (controller_is c) X number s) R c r R'

abbrev pub SetsUp : List ℕ → List ℕ → ℕ → call.Setup → ℕ → List ℕ → List ℕ → List ℕ → Type 0
SetsUp F R number s answer F' R' = Hosted (SetUpOn number s R R' (controller_at F)) F R answer F' R'

-- The requests, over any pool: f is what the protocol says of the controller and its record.
abbrev pub CallOn : (controller.Controller → List Stmt → controller.Outcome) → List ℕ → List ℕ → Controller → Came → Type 0
CallOn f R R' c r = (W : List ℕ) → Meets W R c (f (controller_is c) (record_in W R)) unchanged r W R'

abbrev pub Joins : List ℕ → List ℕ → ℕ → List ℕ → List ℕ → List ℕ → Type 0
Joins F R answer F' R' = Hosted (CallOn call.request_join R R' (controller_at F)) F R answer F' R'

abbrev pub Leaves : List ℕ → List ℕ → ℕ → List ℕ → List ℕ → List ℕ → Type 0
Leaves F R answer F' R' = Hosted (CallOn call.request_leave R R' (controller_at F)) F R answer F' R'

abbrev pub Sends : List ℕ → List ℕ → ℕ → ℕ → ℕ → List ℕ → List ℕ → List ℕ → Type 0
Sends F R notice payload answer F' R' = Hosted (CallOn (λ d X. call.request_send d X notice payload) R R' (controller_at F)) F R answer F' R'

-- A turn at the minute of the week over the pool W and the record R, which leaves W' and R'.
abbrev pub TurnOn : List ℕ → List ℕ → List ℕ → List ℕ → ℕ → Controller → Came → Type 0
TurnOn W R W' R' minute c r = Turns W R c (turn (controller_is c) (record_in W R) (has_room (pool_of W)) minute) r W' R'

abbrev pub TakesTurn : List ℕ → List ℕ → List ℕ → List ℕ → ℕ → ℕ → List ℕ → List ℕ → List ℕ → Type 0
TakesTurn W W' F R minute answer F' R' = Hosted (TurnOn W R W' R' minute (controller_at F)) F R answer F' R'

-- An addition of s.
abbrev pub AddOn : List ℕ → List ℕ → List ℕ → List ℕ → Stmt → Controller → Came → Type 0
AddOn W R W' R' s c r = Adds W R c s (call.add (controller_is c) (record_in W R) (has_room (pool_of W)) s) r W' R'

-- An addition of what is no statement: before setup 8, else 2.
unfoldable pub no_statement : controller.Controller → List Stmt → controller.Outcome
no_statement d X = call.after_setup d X (call.refuse d X controller.bad_statement)

abbrev pub NoneOn : List ℕ → List ℕ → List ℕ → List ℕ → Controller → Came → Type 0
NoneOn W R W' R' c r = Meets W R c (no_statement (controller_is c) (record_in W R)) unchanged r W' R'

-- An addition by the text S: of the statement whose text it is, if that keeps the field rules of the controller's ring. No addition changes the controller's words.
pub record AddsText (S W W' F R : List ℕ) (answer : ℕ) (R' value : List ℕ) : Type 0 where
  pub statement : (s : IsStatement (notices_in F) S) → Hosted (AddOn W R W' R' s.statement (controller_at F)) F R answer F R' value
  pub none : (IsStatement (notices_in F) S → ⊥) → Hosted (NoneOn W R W' R' (controller_at F)) F R answer F R' value

-- ---- calls of a run

-- The call k of a run took place over the pool W, on the controller of F with the record R: the host got the answer and the value, and W', F' and R' are what was left.
-- With this a host's calls make up a `HostRun` of crates/guarantee/specs/Hosts.antt.
pub record HostCalled (W F R : List ℕ) (k : Call) (answer : ℕ) (value W' F' R' : List ℕ) : Type 0 where
  pub told : Result Answer Refusal
  pub answered : answer ≡ answer_number told
  pub valued : value ≡ value_words told
  pub called : Called W R (controller_at F) k (record { answer = told; controller = controller_at F' }) W' R'
