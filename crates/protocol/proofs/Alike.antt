-- Where no leave is requested, minutes in range change nothing.
-- Assumes nothing.
use Rattle.std.specs.Prelude.{if◌then◌else◌}
use mathlib.Core.Path.{◌≡◌, refl, sym, ap, ap₂, ◌∙◌}
use mathlib.Core.Bool.{Bool, true, false, not, ◌||◌}
use mathlib.Core.List.{List, [], ◌∷◌, map}
use mathlib.Core.Option.{Option, some, none}
use Prim.Native.Nat.{ℕ, zero, suc, ◌≤◌, ◌<◌}
use native.Mathlib.Omega.{arith}
use lib.Dec.{eqb, ltb}
use lib.ListN.{length, get_elem?}
use Rattle.protocol.specs.Lists.{any, is_some, first_some}
use Rattle.protocol.specs.View.{member}
use Rattle.protocol.specs.Statement.{Stmt, same_stmt, field_rules}
use Rattle.protocol.specs.Evidence.{sender_of, candidates, is_conflict}
use Rattle.protocol.specs.Window.{last_minute, windows_allowed}
use Rattle.protocol.specs.Controller.{Controller, not_set_up, conflict, many_candidates, bad_minute, Outcome}
use Rattle.protocol.specs.Call.{is_full, refuse, after_setup, setup_allowed, started, setup, request_join, request_send, add}
use Rattle.protocol.specs.Turn.{Action, sign, bind_and_sign, enter, deliver, rule1, rule2, rule3, rule4, rule5, rule6, rule7, rule8, rule9, rule10, first_rule, signing, perform, turn}
use Rattle.protocol.specs.Run.{Call, setup_call, join_call, leave_call, send_call, add_call, turn_call, outcome, Event, call, signing as breaks, Run, after_event, event, returned}
use Rattle.protocol.specs.Alike.{timeless_call, timeless, NeverLeaves, AlikeButMinutes, MinutesApart}
use Rattle.protocol.proofs.Says.{says-leb}
use Rattle.protocol.proofs.Found.{either}

-- no leave was asked for
abbrev Unasked : Outcome → Type 0
Unasked o = o.controller.leave_requested ≡ false

both : (P : Outcome → Type 0) (b : Bool) {x y : Outcome} → P x → P y → P (if b then x else y)
both P b f g = either P b (λ _. f) (λ _. g)

module _ (room : Stmt → Bool) (c : Controller) (X : List Stmt) (none_yet : c.leave_requested ≡ false) where
  performed : (o : Option Action) → Unasked (perform c X room o)
  unfolding perform signing
  performed none = none_yet
  performed (some (sign s)) = both Unasked (is_full room X s) none_yet none_yet
  performed (some (bind_and_sign i m s)) = both Unasked (is_full room X s) none_yet none_yet
  performed (some (enter v b)) = none_yet
  performed (some (deliver i m)) = none_yet

  -- only a leave request asks for a leave
  unasked : (k : Call) → ¬ (k ≡ leave_call) → Unasked (outcome room c X k)
  unfolding outcome setup started request_join request_send add turn
  unasked (setup_call number s) n = both Unasked (c.is_set_up || not (setup_allowed number s.members s.senders)) none_yet (both Unasked (not (windows_allowed s.windows)) none_yet refl)
  unasked join_call n = both Unasked c.is_set_up (both Unasked (member c.ring.init c.number || c.join_requested) none_yet none_yet) none_yet
  unasked leave_call n = absurd (n refl)
  unasked (send_call i m) n =
      both Unasked c.is_set_up (both Unasked (not (ltb i (length c.senders))) none_yet
      (both Unasked (not (eqb c.number (sender_of c.senders i)) || is_some (c.send_requested i)) none_yet none_yet)) none_yet
  unasked (add_call s) n =
      both Unasked c.is_set_up (both Unasked (not (field_rules c.ring.width (length c.senders) s)) none_yet
      (both Unasked (not (ltb s.notice (length c.senders))) none_yet (both Unasked (any (same_stmt s) X) none_yet (both Unasked (is_full room X s) none_yet none_yet)))) none_yet
  unasked (turn_call minute) n =
      both Unasked c.is_set_up (both Unasked (ltb last_minute minute) none_yet (both Unasked (is_conflict c.ring c.senders X) none_yet
      (both Unasked (ltb 16 (length (candidates c.ring X))) none_yet (performed (first_rule c X minute))))) none_yet

  -- rule 9 is silent
  silent : (minute : ℕ) → rule9 c X minute ≡ none
  unfolding rule9
  silent minute = rw none_yet

  first-same : (minute : ℕ) → first_rule c X minute ≡ first_rule c X 0
  unfolding first_rule
  first-same minute =
      ap (λ r. first_some (rule1 c X ∷ rule2 c X ∷ rule3 c X ∷ rule4 c X ∷ rule5 c X ∷ rule6 c X ∷ rule7 c X ∷ rule8 c X ∷ r ∷ rule10 c X ∷ [])) (silent minute ∙ sym (silent 0))

  in-range : (minute : ℕ) → minute ≤ last_minute → ltb last_minute minute ≡ false
  in-range minute l = go (ltb last_minute minute) refl
    where
      go : (b : Bool) → ltb last_minute minute ≡ b → b ≡ false
      go true e = let q : last_minute < minute = says-leb.sound (rw e tt) in absurd (omega arith)
      go false e = refl

  turn-same : (minute : ℕ) → minute ≤ last_minute → turn c X room minute ≡ turn c X room 0
  unfolding turn
  turn-same minute l = ap₂ shape (in-range minute l ∙ sym (in-range 0 (omega arith))) (first-same minute)
    where
      shape : Bool → Option Action → Outcome
      shape b a = after_setup c X (if b then refuse c X bad_minute else if is_conflict c.ring c.senders X then refuse c X conflict
          else if ltb 16 (length (candidates c.ring X)) then refuse c X many_candidates
          else perform c X room a)

  same_outcome : (k : Call) → ((minute : ℕ) → k ≡ turn_call minute → minute ≤ last_minute) → outcome room c X k ≡ outcome room c X (timeless_call k)
  unfolding outcome timeless_call
  same_outcome (setup_call number s) l = refl
  same_outcome join_call l = refl
  same_outcome leave_call l = refl
  same_outcome (send_call i m) l = refl
  same_outcome (add_call s) l = refl
  same_outcome (turn_call minute) l = turn-same minute (l minute refl)

-- the run with all its minutes 0
stopped : Run → Run
stopped run = record { follows = run.follows; setting = run.setting; events = map timeless run.events; room = run.room }

after : Option Event → Option Event
after none = none
after (some e) = some (timeless e)

event-stopped : (l : List Event) (n : ℕ) → get_elem? (map timeless l) n ≡ after (get_elem? l n)
unfolding after
event-stopped [] n = refl
event-stopped (e ∷ l) zero = refl
event-stopped (e ∷ l) (suc n) = event-stopped l n

module _ (run : Run) (never : NeverLeaves run) where
  begins : (k : ℕ) → Unasked (setup not_set_up [] k run.setting)
  unfolding setup started
  begins k = both Unasked (not (setup_allowed k run.setting.members run.setting.senders)) refl (both Unasked (not (windows_allowed run.setting.windows)) refl refl)

  same-event : (k n : ℕ) (o : Outcome) → Unasked o → (e : Option Event) → event run n ≡ e
      → Unasked (after_event (run.room n) k e o) × (after_event (run.room n) k e o ≡ after_event (run.room n) k (after e) o)
  unfolding after_event after timeless
  same-event k n o st none f = (st, refl)
  same-event k n o st (some (breaks s)) f = (st, refl)
  same-event k n o st (some (call j c)) f = go (eqb j k)
    where
      go : (b : Bool) → Unasked (if b then outcome (run.room n) o.controller o.statements c else o)
          × ((if b then outcome (run.room n) o.controller o.statements c else o) ≡ (if b then outcome (run.room n) o.controller o.statements (timeless_call c) else o))
      go true = (
        unasked (run.room n) o.controller o.statements st c (λ e. never.no_leave n j (f ∙ ap (λ c. some (call j c)) e)),
        same_outcome (run.room n) o.controller o.statements st c (λ minute e. never.in_range n j minute (f ∙ ap (λ c. some (call j c)) e)),
      )
      go false = (st, refl)

  same-returned : (k n : ℕ) → Unasked (returned run k n) × (returned run k n ≡ returned (stopped run) k n)
  unfolding returned stopped
  same-returned k zero = (begins k, refl)
  same-returned k (suc n) =
      let (st, e) = same-returned k n in
      let (st', f) = same-event k n (returned run k n) st (event run n) refl in
      (st', f ∙ ap (λ v. after_event (run.room n) k v (returned run k n)) (sym (event-stopped run.events n)) ∙ ap (after_event (run.room n) k (get_elem? (map timeless run.events) n)) e)

stopped-same : {run run' : Run} → AlikeButMinutes run run' → stopped run ≡ stopped run'
unfolding stopped
stopped-same a i = record { follows = a.follows i; setting = a.setting i; events = a.events i; room = a.room i }

pub minutes-apart : MinutesApart
minutes-apart = record {
  equal = λ run run' a never never' k n.
      (same-returned run never k n).1 ∙ ap (λ r. returned r k n) (stopped-same a) ∙ sym (same-returned run' never' k n).1;
}
