-- What the memory of a controller means. It is 232 words; the controller's record is lent beside them, as crates/pool/specs/Pool.antt has it.
-- Word 0 says whether it is set up, 1 is its number, 2 its initial view, 3 how many notices there are, 4 the set of those delivered and 5 the set of those whose send was
-- requested, bit j for notice j, 6 and 7 whether join and leave were requested, 8 the set of the notices that are bound and 9 of those that are barred, 10 how many service
-- windows there are and 12 how many views it entered; words 16 to 31 are those views; the others of the first 32 mean nothing. Word 32 + j is the sender of notice j, 96 + j the
-- payload to which it is bound and 160 + j the payload to send; words 224 to 231 are the windows, as crates/windows/specs/Windows.antt reads them.
-- Every memory means some controller: each word is read as the value that it can stand for, and nothing has to hold of it.
-- Assumes nothing.
use Rattle.std.specs.Prelude.{Bool, not, List, ℕ, ◌+◌, ◌/◌, ◌%◌, eqb, get_or, if◌then◌else◌}
use Rattle.protocol.specs.Lists.{list_of}
use Rattle.protocol.specs.Sets.{bit}
use Rattle.views.specs.declared.View.{View}
use Rattle.views.specs.declared.History.{History}
use Rattle.statements.specs.declared.Binding.{Binding}
use Rattle.statements.specs.declared.Binding.TheVariants.{Unbound, Bound, Barred}
use Rattle.evidence.specs.declared.Notice.{Notice}
use Rattle.engine.specs.declared.Controller.{Controller}

abbrev pub held_no_view : View
held_no_view = record { joined = 0; left = 0 }

-- The view that a word holds: 32 bits of who joined, and above them 32 of who left. Of each the lowest 16 stand for controllers (`view_is` of crates/views/specs/Held.antt).
abbrev pub held_in : ℕ → View
held_in w = record { joined = w % 4294967296; left = w / 4294967296 % 4294967296 }

-- Any word but 0 says yes.
abbrev pub says : ℕ → Bool
says w = not (eqb w 0)

-- A notice that is in both sets is barred.
abbrev pub binding_in : Bool → Bool → ℕ → Binding
binding_in bound barred m = if barred then Barred else if bound then Bound m else Unbound

-- The views that were entered.
unfoldable pub entered_in : List ℕ → History
entered_in F = record { views = list_of 16 (λ i. held_in (get_or F (16 + i) 0)); len = get_or F 12 0 }

-- ---- of notice j

unfoldable pub sender_in : List ℕ → ℕ → ℕ
sender_in F j = get_or F (32 + j) 0 % 256

unfoldable pub notice_in : List ℕ → ℕ → Notice
notice_in F j = record { binding = binding_in (bit (get_or F 8 0) j) (bit (get_or F 9 0) j) (get_or F (96 + j) 0) }

unfoldable pub send_in : List ℕ → ℕ → ℕ
send_in F j = get_or F (160 + j) 0

-- ---- of window i

unfoldable pub time_in : List ℕ → ℕ → ℕ
time_in F i = get_or F (224 + i) 0

-- Whether it is set up, and how many notices there are: all that an addition asks of a controller.

abbrev pub ready_in : List ℕ → Bool
ready_in F = says (get_or F 0 0)

abbrev pub notices_in : List ℕ → ℕ
notices_in F = get_or F 3 0

-- The controller that the words F mean.
unfoldable pub controller_at : List ℕ → Controller
controller_at F = record {
  ready = ready_in F;
  number = get_or F 1 0 % 256;
  init = held_in (get_or F 2 0);
  notices = notices_in F;
  senders = list_of 64 (sender_in F);
  entered = entered_in F;
  held = list_of 64 (notice_in F);
  sends = list_of 64 (send_in F);
  delivered = get_or F 4 0;
  requested = get_or F 5 0;
  joining = says (get_or F 6 0);
  leaving = says (get_or F 7 0);
  windows = get_or F 10 0;
  times = list_of 8 (time_in F);
}
