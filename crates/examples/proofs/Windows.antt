-- Request A4 of document 02, by computation: a leave is signed only inside a window, and refusals 10 and 11.
-- Assumes nothing.
use mathlib.Core.Path.{◌≡◌, refl}
use mathlib.Core.List.{List, [], ◌∷◌, map}
use Prim.Native.Nat.{ℕ}
use lib.ListN.{replicate}
use Rattle.protocol.specs.Statement.{leave, prepare, ack}
use Rattle.protocol.specs.Controller.{not_set_up, bad_setup, conflict, out_of_place, bad_window, bad_minute, Answer, taken, signed, quiet, refused}
use Rattle.protocol.specs.Window.{Window}
use Rattle.protocol.specs.Call.{Setup, started, setup, request_leave, request_send}
use Rattle.protocol.specs.Turn.{turn}
use Rattle.examples.proofs.Opened.{opened}
use Rattle.examples.proofs.Refusals.{alone, zero, any-room}

abbrev window : ℕ → ℕ → ℕ → Window
window weekday first end = record { weekday = weekday; first = first; end = end }

-- a ring of one controller, the sender, with these windows
abbrev timed : List Window → Setup
timed l = record { members = 1; senders = 0 ∷ []; windows = l }

-- ---- 10 at setup, after 1

abbrev starts : Setup → Answer
starts s = (setup not_set_up [] 0 s).answer

-- eight windows, of which each is the whole day, and none
allowed-answers : (starts (timed (replicate 8 (window 6 0 1440))) ∷ starts (timed []) ∷ []) ≡ (taken ∷ taken ∷ [])
unfolding opened
allowed-answers = refl

-- a ninth window, a first minute that is the end, one after it, weekday 7, an end of 1441, a first minute of 1441, and a second window that is not allowed
window-answers : (starts (timed (replicate 9 (window 6 0 1440))) ∷ starts (timed (window 0 5 5 ∷ [])) ∷ starts (timed (window 0 6 5 ∷ [])) ∷ starts (timed (window 7 0 1 ∷ []))
    ∷ starts (timed (window 0 0 1441 ∷ [])) ∷ starts (timed (window 0 1441 1442 ∷ [])) ∷ starts (timed (window 0 0 1 ∷ window 0 1 1 ∷ [])) ∷ [])
    ≡ replicate 7 (refused bad_window)
unfolding opened
window-answers = refl

-- no members, and a second setup, with windows that are not allowed
first-answers : (starts (record { members = 0; senders = 0 ∷ []; windows = window 7 0 1 ∷ [] }) ∷ (setup zero [] 0 (timed (window 7 0 1 ∷ []))).answer ∷ []) ≡ (refused bad_setup ∷ refused bad_setup ∷ [])
unfolding opened
first-answers = refl

-- ---- a leave

-- what the controller that asked to leave answers at these minutes, on a new record each time
abbrev leaves : List Window → List ℕ → List Answer
leaves l = map (λ minute. (turn (request_leave (started 0 (timed l)) []).controller [] any-room minute).answer)

-- the minute before, the first, the last, the end; the first on the day before and on the day after
edge-answers : leaves (window 1 10 12 ∷ []) (1449 ∷ 1450 ∷ 1451 ∷ 1452 ∷ 10 ∷ 2890 ∷ []) ≡ (quiet ∷ signed (leave 0) ∷ signed (leave 0) ∷ quiet ∷ quiet ∷ quiet ∷ [])
unfolding opened
edge-answers = refl

-- two windows that overlap: before both, in the first alone, in both, in the second alone, after both
overlap-answers : leaves (window 1 10 20 ∷ window 1 15 30 ∷ []) (1449 ∷ 1450 ∷ 1455 ∷ 1469 ∷ 1470 ∷ []) ≡ (quiet ∷ signed (leave 0) ∷ signed (leave 0) ∷ signed (leave 0) ∷ quiet ∷ [])
unfolding opened
overlap-answers = refl

-- no windows: always
always-answers : leaves [] (0 ∷ 10079 ∷ []) ≡ (signed (leave 0) ∷ signed (leave 0) ∷ [])
unfolding opened
always-answers = refl

-- no other rule asks for a window
send-answers : (turn (request_send (started 0 (timed (window 1 10 12 ∷ []))) [] 0 7).controller [] any-room 0).answer ≡ signed (prepare 0 0 7)
unfolding opened
send-answers = refl

-- ---- 11 on a turn, after 8 and before 7

minute-answers : ((turn not_set_up [] any-room 10080).answer ∷ (turn zero [] any-room 10080).answer ∷ (turn zero (prepare 0 0 5 ∷ prepare 0 0 6 ∷ ack 0 alone 0 5 ∷ ack 0 alone 0 6 ∷ []) any-room 10080).answer
    ∷ (turn zero (prepare 0 0 5 ∷ prepare 0 0 6 ∷ ack 0 alone 0 5 ∷ ack 0 alone 0 6 ∷ []) any-room 10079).answer ∷ (turn zero [] any-room 10079).answer ∷ [])
    ≡ (refused out_of_place ∷ refused bad_minute ∷ refused bad_minute ∷ refused conflict ∷ quiet ∷ [])
unfolding opened
minute-answers = refl
