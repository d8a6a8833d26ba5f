-- What the engine's values mean: the protocol's controller and answer.
-- Assumes nothing.
use Rattle.std.specs.Prelude.{List, [], ◌∷◌, ℕ, min, get_or, if◌then◌else◌, Result, Ok, Err}
use Rattle.protocol.specs.Sets.{bit}
use Rattle.protocol.specs.Lists.{when, list_of}
use Rattle.protocol.specs.View.{View, controllers, member}
use Rattle.protocol.specs.Controller as controller
use Rattle.protocol.specs.Call as call
use Rattle.views.specs.Held.{view_is, views_is}
use Rattle.views.specs.declared.View as held
use Rattle.pool.specs.Pool.{stmt_at}
use Rattle.evidence.specs.Notices.{senders_of, binding_held}
use Rattle.windows.specs.Windows.{windows_in}
use Rattle.engine.specs.declared.Controller.{Controller}
use Rattle.engine.specs.declared.Setup.{Setup}
use Rattle.engine.specs.declared.Refusal.{Refusal}
use Rattle.engine.specs.declared.Refusal.TheVariants.{BadSetup, BadStatement, Repeated, Full, BadRequest, ManyCandidates, Conflict, OutOfPlace, UnknownNotice, BadWindow, BadMinute}
use Rattle.engine.specs.declared.Answer.{Answer}
use Rattle.engine.specs.declared.Answer.TheVariants.{Taken, Signed, Entered, Delivered, Left, Quiet}
use Rattle.engine.specs.declared.Outcome.{Outcome}

-- The views that controller k has entered at first: "Initial members start entered".
unfoldable pub initial_is : held.View → ℕ → List View
initial_is v k = if member (view_is v) k then view_is v ∷ [] else []

-- The senders that a setup names: the first n of S.
unfoldable pub first_senders : List ℕ → ℕ → List ℕ
first_senders S n = list_of n (λ i. get_or S i 0)

-- What a setup names: its members, the first senders of S and the first windows of A.
abbrev pub setup_is : Setup → List ℕ → List ℕ → call.Setup
setup_is s S A = record { members = s.members; senders = first_senders S s.notices; windows = windows_in A s.windows }

-- The controller. Its record is lent beside it. What its arrays hold for a number that is no notice of the setup means nothing that a call asks.
unfoldable pub controller_is : Controller → controller.Controller
controller_is c = record {
  is_set_up = c.ready;
  number = c.number;
  ring = record { width = controllers; init = view_is c.init };
  senders = senders_of c.senders c.notices;
  windows = windows_in c.times (min c.windows 8);
  entered = views_is c.entered;
  binding = λ i. binding_held c.held i;
  delivered = λ i. bit c.delivered i;
  join_requested = c.joining;
  leave_requested = c.leaving;
  send_requested = λ i. when (bit c.requested i) (get_or c.sends i 0);
}

abbrev pub refusal_is : Refusal → controller.Refusal
refusal_is BadSetup = controller.bad_setup
refusal_is BadStatement = controller.bad_statement
refusal_is Repeated = controller.repeated
refusal_is Full = controller.full
refusal_is BadRequest = controller.bad_request
refusal_is ManyCandidates = controller.many_candidates
refusal_is Conflict = controller.conflict
refusal_is OutOfPlace = controller.out_of_place
refusal_is UnknownNotice = controller.unknown_notice
refusal_is BadWindow = controller.bad_window
refusal_is BadMinute = controller.bad_minute

-- What a call came to: its answer, or why it was refused, and the controller after it.
pub record Came : Type 0 where
  pub answer : Result Answer Refusal
  pub controller : Controller

-- A call on c that returned r: the controller of a call that is refused is as it was.
abbrev pub came_to : Controller → Result Outcome Refusal → Came
came_to c (Ok o) = record { answer = Ok o.answer; controller = o.controller }
came_to c (Err q) = record { answer = Err q; controller = c }

-- The number in the pool of what was signed; 0 where nothing was.
abbrev pub signed_number : Result Answer Refusal → ℕ
signed_number (Ok Taken) = 0
signed_number (Ok (Signed n)) = n
signed_number (Ok (Entered v)) = 0
signed_number (Ok (Delivered i m a)) = 0
signed_number (Ok Left) = 0
signed_number (Ok Quiet) = 0
signed_number (Err r) = 0

-- An answer over the pool's memory W: a signed statement is answered by its number in the pool.
unfoldable pub answer_is : List ℕ → Result Answer Refusal → controller.Answer
answer_is W (Ok Taken) = controller.taken
answer_is W (Ok (Signed n)) = controller.signed (stmt_at W n)
answer_is W (Ok (Entered v)) = controller.entered (view_is v)
answer_is W (Ok (Delivered i m a)) = controller.delivered i m a
answer_is W (Ok Left) = controller.left
answer_is W (Ok Quiet) = controller.quiet
answer_is W (Err r) = controller.refused (refusal_is r)
