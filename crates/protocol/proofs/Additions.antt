-- The answers of a setup, of a turn, of an addition and of a send, in the order of the checks.
-- Assumes nothing.
use mathlib.Core.Path.{◌≡◌}
use mathlib.Core.Bool.{Bool, true, false, not, ◌||◌}
use mathlib.Core.List.{List, [], ◌∷◌, ◌++◌}
use mathlib.Core.Option.{some}
use Prim.Native.Nat.{ℕ, ◌<◌}
use lib.Dec.{eqb, ltb}
use lib.ListN.{length}
use borrow.Author.Tests.{lt-ltb}
use Rattle.protocol.specs.Lists.{any, is_some, put}
use Rattle.protocol.specs.Statement.{Stmt, same_stmt, field_rules}
use Rattle.protocol.specs.Evidence.{sender_of}
use Rattle.protocol.specs.Controller.{Controller, with_requests, bad_setup, bad_statement, repeated, full, bad_request, out_of_place, unknown_notice, bad_window, bad_minute, taken}
use Rattle.protocol.specs.Window.{last_minute, windows_allowed}
use Rattle.protocol.specs.Call.{Setup, is_full, refuse, setup_allowed, started, setup, note, request_send, add}
use Rattle.protocol.specs.Turn.{turn}

module _ (c : Controller) (X : List Stmt) where
  -- the statement keeps the field rules of the ring
  abbrev pub keeps_fields : Stmt → Bool
  keeps_fields s = field_rules c.ring.width (length c.senders) s

  -- the notice is one of the setup
  abbrev pub is_notice : ℕ → Bool
  is_notice i = ltb i (length c.senders)

  -- ---- a setup: 1, 10

  module _ (number : ℕ) (s : Setup) where
    pub setup-again : c.is_set_up ≡ true → setup c X number s ≡ refuse c X bad_setup
    unfolding setup
    setup-again e = rw e

    pub setup-bad : c.is_set_up ≡ false → setup_allowed number s.members s.senders ≡ false → setup c X number s ≡ refuse c X bad_setup
    unfolding setup
    setup-bad e f = rw (e, f)

    pub setup-shut : c.is_set_up ≡ false → setup_allowed number s.members s.senders ≡ true → windows_allowed s.windows ≡ false → setup c X number s ≡ refuse c X bad_window
    unfolding setup
    setup-shut e f g = rw (e, f, g)

    pub setup-taken : c.is_set_up ≡ false → setup_allowed number s.members s.senders ≡ true → windows_allowed s.windows ≡ true
        → setup c X number s ≡ record { answer = taken; controller = started number s; statements = [] }
    unfolding setup
    setup-taken e f g = rw (e, f, g)

  -- ---- a turn: 8, 11, then what the record shows

  module _ (room : Stmt → Bool) (minute : ℕ) where
    pub turn-unready : c.is_set_up ≡ false → turn c X room minute ≡ refuse c X out_of_place
    unfolding turn
    turn-unready e = rw e

    pub turn-late : c.is_set_up ≡ true → last_minute < minute → turn c X room minute ≡ refuse c X bad_minute
    unfolding turn
    turn-late e h = rw (e, lt-ltb last_minute minute h)

  -- ---- adding: 8, 2, 9, 3, 4

  module _ (room : Stmt → Bool) (s : Stmt) where
    pub add-unready : c.is_set_up ≡ false → add c X room s ≡ refuse c X out_of_place
    unfolding add
    add-unready e = rw e

    pub add-bad : c.is_set_up ≡ true → keeps_fields s ≡ false → add c X room s ≡ refuse c X bad_statement
    unfolding add
    add-bad e f = rw (e, f)

    pub add-unknown : c.is_set_up ≡ true → keeps_fields s ≡ true → is_notice s.notice ≡ false → add c X room s ≡ refuse c X unknown_notice
    unfolding add
    add-unknown e f g = rw (e, f, g)

    pub add-repeated : c.is_set_up ≡ true → keeps_fields s ≡ true → is_notice s.notice ≡ true → any (same_stmt s) X ≡ true → add c X room s ≡ refuse c X repeated
    unfolding add
    add-repeated e f g h = rw (e, f, g, h)

    pub add-full : c.is_set_up ≡ true → keeps_fields s ≡ true → is_notice s.notice ≡ true → any (same_stmt s) X ≡ false → is_full room X s ≡ true → add c X room s ≡ refuse c X full
    unfolding add
    add-full e f g h i = rw (e, f, g, h, i)

    pub add-taken : c.is_set_up ≡ true → keeps_fields s ≡ true → is_notice s.notice ≡ true → any (same_stmt s) X ≡ false → is_full room X s ≡ false
        → add c X room s ≡ record { answer = taken; controller = c; statements = X ++ (s ∷ []) }
    unfolding add
    add-taken e f g h i = rw (e, f, g, h, i)

  -- ---- send: 8, 9, 5

  module _ (i m : ℕ) where
    -- "send by another than the sender or repeated"
    abbrev pub not_to_send : Bool
    not_to_send = not (eqb c.number (sender_of c.senders i)) || is_some (c.send_requested i)

    pub send-unready : c.is_set_up ≡ false → request_send c X i m ≡ refuse c X out_of_place
    unfolding request_send
    send-unready e = rw e

    pub send-unknown : c.is_set_up ≡ true → is_notice i ≡ false → request_send c X i m ≡ refuse c X unknown_notice
    unfolding request_send
    send-unknown e f = rw (e, f)

    pub send-barred : c.is_set_up ≡ true → is_notice i ≡ true → not_to_send ≡ true → request_send c X i m ≡ refuse c X bad_request
    unfolding request_send
    send-barred e f g = rw (e, f, g)

    pub send-taken : c.is_set_up ≡ true → is_notice i ≡ true → not_to_send ≡ false
        → request_send c X i m ≡ note c X (with_requests c.join_requested c.leave_requested (put i (some m) c.send_requested) c)
    unfolding request_send
    send-taken e f g = rw (e, f, g)
