-- Which answers leave a controller and its record as they were.
-- Assumes nothing.
use mathlib.Core.Path.{◌≡◌, refl}
use mathlib.Core.Bool.{Bool, not, ◌||◌}
use mathlib.Core.List.{List}
use mathlib.Core.Option.{Option, some, none}
use Prim.Native.Nat.{ℕ}
use lib.Dec.{eqb, ltb}
use lib.ListN.{length}
use Rattle.protocol.specs.Lists.{any, is_some}
use Rattle.protocol.specs.View.{member}
use Rattle.protocol.specs.Statement.{Stmt, same_stmt, field_rules}
use Rattle.protocol.specs.Evidence.{sender_of, candidates, is_conflict}
use Rattle.protocol.specs.Controller.{Controller, Refusal, bad_setup, bad_statement, repeated, full, bad_request, many_candidates, conflict, out_of_place, unknown_notice, bad_window, bad_minute, Answer, taken, signed, entered, delivered, left, quiet, refused, Outcome}
use Rattle.protocol.specs.Window.{last_minute, windows_allowed}
use Rattle.protocol.specs.Call.{Setup, is_full, setup_allowed, setup, request_join, request_leave, request_send, add}
use Rattle.protocol.specs.Turn.{Action, sign, bind_and_sign, enter, deliver, first_rule, signing, perform, turn}
use Rattle.protocol.proofs.Found.{either}

-- nothing was done
abbrev pub Idle : Answer → Type 0
Idle taken = ⊥
Idle (signed s) = ⊥
Idle (entered v) = ⊥
Idle (delivered i m a) = ⊥
Idle left = Unit {0}
Idle quiet = Unit {0}
Idle (refused r) = Unit {0}

-- where nothing was done, the controller and its record are as before
pub record Stays (c : Controller) (X : List Stmt) (o : Outcome) : Type 0 where
  pub stays : Idle o.answer → (o.controller ≡ c) × (o.statements ≡ X)

module _ (c : Controller) (X : List Stmt) where
  as_before : (a : Answer) → Stays c X (record { answer = a; controller = c; statements = X })
  as_before a = record { stays = λ i. (refl, refl) }

  refusal : (r : Refusal) → Stays c X (record { answer = refused r; controller = c; statements = X })
  refusal r = as_before (refused r)

  done : (d : Controller) (Y : List Stmt) → Stays c X (record { answer = taken; controller = d; statements = Y })
  done d Y = record { stays = λ i. absurd i }

  pub setup-stays : (number : ℕ) (s : Setup) → Stays c X (setup c X number s)
  unfolding setup
  setup-stays number s =
      either (Stays c X) (c.is_set_up || not (setup_allowed number s.members s.senders)) (λ e. refusal bad_setup) (λ e. either (Stays c X) (not (windows_allowed s.windows)) (λ f. refusal bad_window) (λ f. done _ _))

  pub join-stays : Stays c X (request_join c X)
  unfolding request_join
  join-stays = either (Stays c X) c.is_set_up (λ e. either (Stays c X) (member c.ring.init c.number || c.join_requested) (λ f. refusal bad_request) (λ f. done _ _)) (λ e. refusal out_of_place)

  pub leave-stays : Stays c X (request_leave c X)
  unfolding request_leave
  leave-stays = either (Stays c X) c.is_set_up (λ e. either (Stays c X) (eqb (length c.entered) 0 || c.leave_requested) (λ f. refusal bad_request) (λ f. done _ _)) (λ e. refusal out_of_place)

  pub send-stays : (i m : ℕ) → Stays c X (request_send c X i m)
  unfolding request_send
  send-stays i m =
      either (Stays c X) c.is_set_up (λ e. either (Stays c X) (not (ltb i (length c.senders))) (λ f. refusal unknown_notice)
      (λ f. either (Stays c X) (not (eqb c.number (sender_of c.senders i)) || is_some (c.send_requested i)) (λ g. refusal bad_request) (λ g. done _ _))) (λ e. refusal out_of_place)

  performed : (room : Stmt → Bool) (a : Option Action) → Stays c X (perform c X room a)
  unfolding perform signing
  performed room none = as_before _
  performed room (some (sign s)) = either (Stays c X) (is_full room X s) (λ e. refusal full) (λ e. record { stays = λ i. absurd i })
  performed room (some (bind_and_sign i m s)) = either (Stays c X) (is_full room X s) (λ e. refusal full) (λ e. record { stays = λ i. absurd i })
  performed room (some (enter v b)) = record { stays = λ i. absurd i }
  performed room (some (deliver i m)) = record { stays = λ i. absurd i }

  pub turn-stays : (room : Stmt → Bool) (minute : ℕ) → Stays c X (turn c X room minute)
  unfolding turn
  turn-stays room minute =
      either (Stays c X) c.is_set_up (λ e. either (Stays c X) (ltb last_minute minute) (λ f. refusal bad_minute)
      (λ e. either (Stays c X) (is_conflict c.ring c.senders X) (λ f. refusal conflict)
      (λ f. either (Stays c X) (ltb 16 (length (candidates c.ring X))) (λ g. refusal many_candidates) (λ g. performed room (first_rule c X minute))))) (λ e. refusal out_of_place)

  -- what holds of an addition that is refused and of one that is taken holds of each addition
  added : (P : Outcome → Type 0) (room : Stmt → Bool) (s : Stmt) → ((r : Refusal) → P (record { answer = refused r; controller = c; statements = X }))
      → ((Y : List Stmt) → P (record { answer = taken; controller = c; statements = Y })) → P (add c X room s)
  unfolding add
  added P room s f g =
      either P c.is_set_up (λ e. either P (not (field_rules c.ring.width (length c.senders) s)) (λ e. f bad_statement)
      (λ e. either P (not (ltb s.notice (length c.senders))) (λ e. f unknown_notice)
      (λ e. either P (any (same_stmt s) X) (λ e. f repeated) (λ e. either P (is_full room X s) (λ e. f full) (λ e. g _))))) (λ e. f out_of_place)

  pub add-stays : (room : Stmt → Bool) (s : Stmt) → Stays c X (add c X room s)
  add-stays room s = added (Stays c X) room s refusal (λ Y. done c Y)

  -- no addition changes the controller
  pub add-controller : (room : Stmt → Bool) (s : Stmt) → (add c X room s).controller ≡ c
  add-controller room s = added (λ o. o.controller ≡ c) room s (λ r. refl) (λ Y. refl)
