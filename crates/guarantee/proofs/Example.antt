-- The example of document 01 in the form of document 02, A4, as bytes: its whole output is printed, its setup is taken, and nobody is marked; so what is promised holds of it.
-- Assumes nothing.
use mathlib.Core.Path.{◌≡◌, refl}
use mathlib.Core.List.{List, [], ◌∷◌}
use mathlib.Core.Option.{Option, some}
use Prim.Native.Nat.{ℕ}
use native.Mathlib.Omega.{arith}
use lib.ListN.{get_elem?}
use Rattle.protocol.specs.Statement.{prepare}
use Rattle.protocol.specs.Controller.{taken, signed, delivered}
use Rattle.protocol.specs.Call.{Setup}
use Rattle.protocol.specs.Pool.{number_of, pooled, has_room}
use Rattle.text.specs.Text.{digits, dec_text, hex_text}
use Rattle.statements.specs.Text.{parted, view_text}
use Rattle.schedule.specs.Line.{Line, setup, send, turn, lines, window_numbers}
use Rattle.bench.specs.Bench.{new_bench, shown_sender, set_up, give_to, give_all, after_turn, turn_at, lie_of, step}
use Rattle.bench.specs.Rows.{row_text, rows_from, ReadAll, Printed}
use Rattle.examples.proofs.Opened.{plain, opened}
use Rattle.guarantee.specs.Events.{after_line, after}
use Rattle.guarantee.specs.Rows.{InText, ShownRow, final_pool, Says, SetupTaken, Kept, ReadOff}
use Rattle.guarantee.proofs.Printed.{guaranteed, none-faulty}

-- setup,0001,1,0,0000,0 / send,0,0,7 / turn,0,0 five times
abbrev schedule : List ℕ
schedule =
    115 ∷ 101 ∷ 116 ∷ 117 ∷ 112 ∷ 44 ∷ 48 ∷ 48 ∷ 48 ∷ 49 ∷ 44 ∷ 49 ∷ 44 ∷ 48 ∷ 44 ∷ 48 ∷ 48 ∷ 48 ∷ 48 ∷ 44 ∷ 48 ∷ 10 ∷
    115 ∷ 101 ∷ 110 ∷ 100 ∷ 44 ∷ 48 ∷ 44 ∷ 48 ∷ 44 ∷ 55 ∷ 10 ∷
    116 ∷ 117 ∷ 114 ∷ 110 ∷ 44 ∷ 48 ∷ 44 ∷ 48 ∷ 10 ∷
    116 ∷ 117 ∷ 114 ∷ 110 ∷ 44 ∷ 48 ∷ 44 ∷ 48 ∷ 10 ∷
    116 ∷ 117 ∷ 114 ∷ 110 ∷ 44 ∷ 48 ∷ 44 ∷ 48 ∷ 10 ∷
    116 ∷ 117 ∷ 114 ∷ 110 ∷ 44 ∷ 48 ∷ 44 ∷ 48 ∷ 10 ∷
    116 ∷ 117 ∷ 114 ∷ 110 ∷ 44 ∷ 48 ∷ 44 ∷ 48 ∷ 10 ∷ []

-- "Whole output"
abbrev out : List ℕ
out =
    108 ∷ 105 ∷ 110 ∷ 101 ∷ 44 ∷ 119 ∷ 104 ∷ 111 ∷ 44 ∷ 97 ∷ 110 ∷ 115 ∷ 119 ∷ 101 ∷ 114 ∷ 44 ∷ 118 ∷ 97 ∷ 108 ∷ 117 ∷ 101 ∷ 10 ∷
    49 ∷ 44 ∷ 48 ∷ 44 ∷ 116 ∷ 97 ∷ 107 ∷ 101 ∷ 110 ∷ 44 ∷ 48 ∷ 10 ∷
    50 ∷ 44 ∷ 48 ∷ 44 ∷ 116 ∷ 97 ∷ 107 ∷ 101 ∷ 110 ∷ 44 ∷ 48 ∷ 10 ∷
    51 ∷ 44 ∷ 48 ∷ 44 ∷ 115 ∷ 105 ∷ 103 ∷ 110 ∷ 101 ∷ 100 ∷ 44 ∷ 48 ∷ 10 ∷
    52 ∷ 44 ∷ 48 ∷ 44 ∷ 115 ∷ 105 ∷ 103 ∷ 110 ∷ 101 ∷ 100 ∷ 44 ∷ 49 ∷ 10 ∷
    53 ∷ 44 ∷ 48 ∷ 44 ∷ 115 ∷ 105 ∷ 103 ∷ 110 ∷ 101 ∷ 100 ∷ 44 ∷ 50 ∷ 10 ∷
    54 ∷ 44 ∷ 48 ∷ 44 ∷ 100 ∷ 101 ∷ 108 ∷ 105 ∷ 118 ∷ 101 ∷ 114 ∷ 101 ∷ 100 ∷ 44 ∷ 55 ∷ 10 ∷
    55 ∷ 44 ∷ 48 ∷ 44 ∷ 113 ∷ 117 ∷ 105 ∷ 101 ∷ 116 ∷ 44 ∷ 48 ∷ 10 ∷ []

abbrev alone : Setup
alone = plain 1 (0 ∷ [])

abbrev reading : List (Option Line)
reading = some (setup alone 0) ∷ some (send 0 0 7) ∷ some (turn 0 0) ∷ some (turn 0 0) ∷ some (turn 0 0) ∷ some (turn 0 0) ∷ some (turn 0 0) ∷ []

reads : ReadAll new_bench (lines schedule) reading
unfolding lines window_numbers parted digits dec_text hex_text
reads = (
  (omega arith, omega arith, (omega arith, tt), omega arith, omega arith, tt, refl),
  ((omega arith, omega arith, omega arith, refl), ((omega arith, omega arith, refl), ((omega arith, omega arith, refl), ((omega arith, omega arith, refl), ((omega arith, omega arith, refl), ((omega arith, omega arith, refl), tt)))))),
)

pub printed : Printed schedule out
unfolding opened number_of pooled has_room shown_sender set_up give_to give_all after_turn turn_at lie_of step row_text rows_from lines parted view_text digits dec_text hex_text
printed = record { reading = reading; reads = λ h. reads; prints = refl }

pub record Facts : Type 0 where
  set_up : SetupTaken reading (InText out) 0 alone 0
  prepared : Says reading (InText out) 2 0 (signed (prepare 0 0 7))
  delivers : Says reading (ShownRow reading out) 5 0 (delivered 0 7 1)
  kept : Kept reading (ShownRow reading out) alone 0
  read_off : ReadOff reading out alone 0

rows : (get_elem? (lines out) 1 ≡ some (row_text 1 (record { who = 0; answer = taken; number = 0 })))
    × (get_elem? (lines out) 3 ≡ some (row_text 3 (record { who = 0; answer = signed (prepare 0 0 7); number = 0 })))
    × (get_elem? (lines out) 6 ≡ some (row_text 6 (record { who = 0; answer = delivered 0 7 1; number = 0 })))
unfolding lines row_text parted digits dec_text
rows = (refl, refl, refl)

computed : (get_elem? (final_pool reading) 0 ≡ some (prepare 0 0 7)) × ((step (after reading 5) (some (turn 0 0))).reply ≡ record { who = 0; answer = delivered 0 7 1; number = 0 })
unfolding opened number_of pooled has_room shown_sender set_up give_to give_all after_turn turn_at lie_of step after_line after
computed = (refl, refl)

begins : SetupTaken reading (InText out) 0 alone 0
begins = record { line = refl; taken = record { number = 0; row = rows.0; names = tt } }

holds : Kept reading (ShownRow reading out) alone 0 × ReadOff reading out alone 0
holds = guaranteed schedule out printed (omega arith) reading reads 0 alone 0 begins (none-faulty reading 1)

pub facts : Facts
facts = record {
  set_up = begins;
  prepared = record { number = 0; row = rows.1; names = computed.0 };
  delivers = record { number = 0; row = record { reply = record { line = some (turn 0 0); there = refl; reply = computed.1 }; row = rows.2 }; names = tt };
  kept = holds.0;
  read_off = holds.1;
}
