-- Which answers leave a controller as it was, that no request signs, and that a turn with nothing to do has nothing to do whatever room there is and, where it does not wait for a window, at any minute.
-- Assumes nothing.
use Rattle.std.specs.Prelude.{if◌then◌else◌, Result, Ok, Err}
use mathlib.Core.Path.{◌≡◌, refl, sym, ap, ◌∙◌}
use mathlib.Core.Bool.{Bool, true, false, not, ◌&&◌, ◌||◌, true≢false}
use mathlib.Core.List.{List, [], ◌∷◌, ◌++◌}
use mathlib.Core.Option.{Option, some, none}
use Prim.Native.Nat.{ℕ, ◌≤◌}
use lib.Dec.{eqb, ltb}
use lib.ListN.{length}
use borrow.Author.Tests.{le-ltb}
use Rattle.protocol.specs.Lists.{when, is_some, first_some}
use Rattle.protocol.specs.View.{member}
use Rattle.protocol.specs.Statement.{Stmt, leave}
use Rattle.protocol.specs.Evidence.{sender_of, candidates, is_conflict}
use Rattle.protocol.specs.Window.{last_minute, is_open}
use Rattle.protocol.specs.Controller as controller
use Rattle.protocol.specs.Controller.{Controller, Outcome}
use Rattle.protocol.specs.Call.{is_full, refuse, request_join, request_leave, request_send}
use Rattle.protocol.specs.Turn.{Action, sign, bind_and_sign, enter, deliver, rule1, rule2, rule3, rule4, rule5, rule6, rule7, rule8, rule9, rule10, first_rule, signing, perform, turn}
use Rattle.protocol.proofs.Found.{either, none≢some}
use Rattle.protocol.proofs.Unchanged.{Idle}
use Rattle.engine.specs.declared.Answer.{Answer}
use Rattle.engine.specs.declared.Refusal.{Refusal}
use Rattle.engine.specs.declared.Answer.TheVariants.{Taken, Signed, Entered, Delivered, Left, Quiet}
use Rattle.engine.specs.Meaning.{answer_is}
use Rattle.engine.specs.Promise.{unchanged, signed_of}
use Rattle.bench.specs.Seats.{changes_is}

pub idle-answer : (W : List ℕ) (x : Result Answer Refusal) → changes_is x ≡ false → Idle (answer_is W x)
unfolding answer_is
idle-answer W (Ok Taken) e = true≢false e
idle-answer W (Ok (Signed n)) e = true≢false e
idle-answer W (Ok (Entered v)) e = true≢false e
idle-answer W (Ok (Delivered i m who)) e = true≢false e
idle-answer W (Ok Left) e = tt
idle-answer W (Ok Quiet) e = tt
idle-answer W (Err r) e = tt

-- nothing was signed
pub record Unsigned (o : Outcome) : Type 0 where
  pub unsigned : signed_of o.answer ≡ unchanged

module _ (c : Controller) (X : List Stmt) where
  pub join-unsigned : Unsigned (request_join c X)
  unfolding request_join
  join-unsigned = either Unsigned c.is_set_up (λ _. either Unsigned (member c.ring.init c.number || c.join_requested) (λ _. record { unsigned = refl }) (λ _. record { unsigned = refl })) (λ _. record { unsigned = refl })

  pub leave-unsigned : Unsigned (request_leave c X)
  unfolding request_leave
  leave-unsigned = either Unsigned c.is_set_up (λ _. either Unsigned (eqb (length c.entered) 0 || c.leave_requested) (λ _. record { unsigned = refl }) (λ _. record { unsigned = refl })) (λ _. record { unsigned = refl })

  pub send-unsigned : (i m : ℕ) → Unsigned (request_send c X i m)
  unfolding request_send
  send-unsigned i m =
      either Unsigned c.is_set_up (λ _. either Unsigned (not (ltb i (length c.senders))) (λ _. record { unsigned = refl })
      (λ _. either Unsigned (not (eqb c.number (sender_of c.senders i)) || is_some (c.send_requested i)) (λ _. record { unsigned = refl }) (λ _. record { unsigned = refl }))) (λ _. record { unsigned = refl })

-- ---- a turn with nothing to do

abbrev pub Resting : controller.Answer → Type 0
Resting controller.taken = ⊥
Resting (controller.signed s) = ⊥
Resting (controller.entered v) = ⊥
Resting (controller.delivered i m who) = ⊥
Resting controller.left = Unit {0}
Resting controller.quiet = Unit {0}
Resting (controller.refused r) = ⊥

-- where none of several rules applies, none of them does by itself
none-at : {A : Type 0} (ks : List (Option A)) (r : Option A) (ls : List (Option A)) → first_some (ks ++ r ∷ ls) ≡ none → r ≡ none
unfolding first_some
none-at [] none ls e = refl
none-at [] (some a) ls e = absurd (none≢some (sym e))
none-at (none ∷ ks) r ls e = none-at ks r ls e
none-at (some a ∷ ks) r ls e = absurd (none≢some (sym e))

module _ (c : Controller) (X : List Stmt) where
  -- it asked to leave, and the minute is outside its windows
  abbrev pub Waits : ℕ → Bool
  Waits m = c.leave_requested && not (is_open c.windows m)

  module _ (m m' : ℕ) (w : Waits m ≡ false) where
    -- a leave that was not due inside a window is not due at any other minute
    leave-rests : rule9 c X m ≡ none → rule9 c X m' ≡ none
    unfolding rule9
    leave-rests = go (sign (leave c.number)) c.leave_requested (is_open c.windows m) (is_open c.windows m') _ _ w
      where
        go : (x : Action) (a b b' d e : Bool) → (a && not b) ≡ false → when (a && b && d && e) x ≡ none → when (a && b' && d && e) x ≡ none
        go x false b b' d e h r = refl
        go x true false b' d e h r = absurd (true≢false h)
        go x true true true d e h r = r
        go x true true false d e h r = refl

    first-rests : first_rule c X m ≡ none → first_rule c X m' ≡ none
    unfolding first_rule
    first-rests e =
        let r = none-at (rule1 c X ∷ rule2 c X ∷ rule3 c X ∷ rule4 c X ∷ rule5 c X ∷ rule6 c X ∷ rule7 c X ∷ rule8 c X ∷ []) (rule9 c X m) (rule10 c X ∷ []) e in
        ap (λ r. first_some (rule1 c X ∷ rule2 c X ∷ rule3 c X ∷ rule4 c X ∷ rule5 c X ∷ rule6 c X ∷ rule7 c X ∷ rule8 c X ∷ r ∷ rule10 c X ∷ [])) (leave-rests r ∙ sym r) ∙ e

  module _ (room room' : Stmt → Bool) where
    signing-rests : (d : Controller) (s : Stmt) → Resting (signing c X room d s).answer → ⊥
    unfolding signing
    signing-rests d s = either (λ (o : Outcome). Resting o.answer → ⊥) (is_full room X s) (λ _ r. r) (λ _ r. r)

    perform-rests : (a : Option Action) → Resting (perform c X room a).answer → a ≡ none
    unfolding perform
    perform-rests none r = refl
    perform-rests (some (sign s)) r = absurd (signing-rests c s r)
    perform-rests (some (bind_and_sign i m s)) r = absurd (signing-rests _ s r)
    perform-rests (some (enter v b)) r = absurd r
    perform-rests (some (deliver i m)) r = absurd r

    perform-none : perform c X room' none ≡ perform c X room none
    unfolding perform
    perform-none = refl

    -- it has nothing to do whatever room there is, and at any minute if it does not wait for a window
    pub turn-rests : (m m' : ℕ) → Waits m ≡ false → m' ≤ last_minute → Resting (turn c X room m).answer → turn c X room' m' ≡ turn c X room m
    unfolding turn
    turn-rests m m' w l = go c.is_set_up (ltb last_minute m) (ltb last_minute m') (is_conflict c.ring c.senders X) (ltb 16 (length (candidates c.ring X))) (le-ltb last_minute m' l)
      where
        tested : Bool → Bool → Bool → Bool → Outcome → Outcome
        tested ready late conflicts many o =
            if ready then (if late then refuse c X controller.bad_minute else if conflicts then refuse c X controller.conflict else if many then refuse c X controller.many_candidates else o)
            else refuse c X controller.out_of_place

        same : Resting (perform c X room (first_rule c X m)).answer → perform c X room' (first_rule c X m') ≡ perform c X room (first_rule c X m)
        same r = let e = perform-rests (first_rule c X m) r in ap (perform c X room') (first-rests m m' w e) ∙ perform-none ∙ ap (perform c X room) (sym e)

        go : (a b b' d e : Bool) → b' ≡ false → Resting (tested a b d e (perform c X room (first_rule c X m))).answer
            → tested a b' d e (perform c X room' (first_rule c X m')) ≡ tested a b d e (perform c X room (first_rule c X m))
        go false b b' d e h r = absurd r
        go true true b' d e h r = absurd r
        go true false b' true e h r = absurd r
        go true false b' false true h r = absurd r
        go true false true false false h r = absurd (true≢false h)
        go true false false false false h r = same r
