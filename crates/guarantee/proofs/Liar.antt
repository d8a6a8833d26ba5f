-- A schedule with a liar and two notices meets the premises: a ring of four in which 3 is marked faulty and signs acks of both notices; 0 sends 7 as notice 1, and delivers it; behind its store quorum stand 0, 1 and the liar.
-- Assumes nothing.
use mathlib.Core.Path.{◌≡◌, refl, sym, subst}
use mathlib.Core.Bool.{not, ◌&&◌}
use mathlib.Core.List.{List, [], ◌∷◌}
use mathlib.Core.Option.{Option, some}
use Prim.Native.Nat.{ℕ, ◌-◌, ◌/◌, ◌≤◌}
use native.Mathlib.Omega.{arith}
use lib.Dec.{T, leb, leb→le}
use lib.ListN.{get_elem?}
use Rattle.protocol.specs.Sets.{bit, count}
use Rattle.protocol.specs.Lists.{all as every_one}
use Rattle.protocol.specs.View.{controllers, View, member, member_count}
use Rattle.protocol.specs.History.{last, top}
use Rattle.protocol.specs.Statement.{is_kind, prepare, ack, store}
use Rattle.protocol.specs.Evidence.{Sealed, start, agreed}
use Rattle.protocol.specs.Controller.{taken, signed, delivered}
use Rattle.protocol.specs.Call.{Setup, initial_view, ring_of}
use Rattle.protocol.specs.Pool.{number_of, pooled, has_room}
use Rattle.protocol.proofs.Says.{says-not, says_all}
use Rattle.protocol.proofs.Decided.{says-kind}
use Rattle.protocol.proofs.Quorums.{someone}
use Rattle.text.specs.Text.{digits, dec_text, hex_text}
use Rattle.statements.specs.Text.{parted, text, group_parts, view_text}
use Rattle.schedule.specs.Line.{Line, setup, send, all, turn, lie, lines, window_numbers}
use Rattle.bench.specs.Bench.{new_bench, shown_sender, set_up, give_to, give_all, after_turn, turn_at, lie_of, step}
use Rattle.bench.specs.Rows.{row_text, rows_from, ReadAll, Printed}
use Rattle.examples.proofs.Opened.{plain, opened}
use Rattle.guarantee.specs.Events.{after_line, after}
use Rattle.guarantee.specs.Rows.{InText, ShownRow, final_pool, FewFaulty, Says, SetupTaken, Kept, ReadOff}
use Rattle.guarantee.proofs.Printed.{guaranteed}

abbrev four : View
four = initial_view 15

-- Notice 0 is of 1, notice 1 of 0.
abbrev senders : List ℕ
senders = 1 ∷ 0 ∷ []

abbrev setting : Setup
setting = plain 15 senders

abbrev schedule : List ℕ
schedule =
    115 ∷ 101 ∷ 116 ∷ 117 ∷ 112 ∷ 44 ∷ 48 ∷ 48 ∷ 48 ∷ 102 ∷ 44 ∷ 50 ∷ 44 ∷ 49 ∷ 44 ∷ 48 ∷ 44 ∷ 48 ∷ 48 ∷ 48 ∷ 56 ∷ 44 ∷ 48 ∷ 10 ∷
    115 ∷ 101 ∷ 110 ∷ 100 ∷ 44 ∷ 48 ∷ 44 ∷ 49 ∷ 44 ∷ 55 ∷ 10 ∷
    116 ∷ 117 ∷ 114 ∷ 110 ∷ 44 ∷ 48 ∷ 44 ∷ 48 ∷ 10 ∷
    108 ∷ 105 ∷ 101 ∷ 44 ∷ 55 ∷ 44 ∷ 51 ∷ 44 ∷ 48 ∷ 48 ∷ 48 ∷ 102 ∷ 48 ∷ 48 ∷ 48 ∷ 48 ∷ 44 ∷ 48 ∷ 48 ∷ 48 ∷ 48 ∷ 48 ∷ 48 ∷ 48 ∷ 48 ∷ 44 ∷ 49 ∷ 44 ∷ 48 ∷ 44 ∷ 55 ∷ 44 ∷ 48 ∷ 44 ∷ 48 ∷ 44 ∷ 48 ∷ 10 ∷
    108 ∷ 105 ∷ 101 ∷ 44 ∷ 55 ∷ 44 ∷ 51 ∷ 44 ∷ 48 ∷ 48 ∷ 48 ∷ 102 ∷ 48 ∷ 48 ∷ 48 ∷ 48 ∷ 44 ∷ 48 ∷ 48 ∷ 48 ∷ 48 ∷ 48 ∷ 48 ∷ 48 ∷ 48 ∷ 44 ∷ 48 ∷ 44 ∷ 48 ∷ 44 ∷ 56 ∷ 44 ∷ 48 ∷ 44 ∷ 48 ∷ 44 ∷ 48 ∷ 10 ∷
    116 ∷ 117 ∷ 114 ∷ 110 ∷ 44 ∷ 48 ∷ 44 ∷ 48 ∷ 10 ∷
    97 ∷ 108 ∷ 108 ∷ 44 ∷ 49 ∷ 10 ∷
    116 ∷ 117 ∷ 114 ∷ 110 ∷ 44 ∷ 49 ∷ 44 ∷ 48 ∷ 10 ∷
    97 ∷ 108 ∷ 108 ∷ 44 ∷ 48 ∷ 10 ∷
    116 ∷ 117 ∷ 114 ∷ 110 ∷ 44 ∷ 48 ∷ 44 ∷ 48 ∷ 10 ∷
    97 ∷ 108 ∷ 108 ∷ 44 ∷ 49 ∷ 10 ∷
    116 ∷ 117 ∷ 114 ∷ 110 ∷ 44 ∷ 49 ∷ 44 ∷ 48 ∷ 10 ∷
    108 ∷ 105 ∷ 101 ∷ 44 ∷ 56 ∷ 44 ∷ 51 ∷ 44 ∷ 48 ∷ 48 ∷ 48 ∷ 102 ∷ 48 ∷ 48 ∷ 48 ∷ 48 ∷ 44 ∷ 48 ∷ 48 ∷ 48 ∷ 48 ∷ 48 ∷ 48 ∷ 48 ∷ 48 ∷ 44 ∷ 49 ∷ 44 ∷ 48 ∷ 44 ∷ 55 ∷ 44 ∷ 48 ∷ 44 ∷ 48 ∷ 44 ∷ 48 ∷ 10 ∷
    97 ∷ 108 ∷ 108 ∷ 44 ∷ 48 ∷ 10 ∷
    116 ∷ 117 ∷ 114 ∷ 110 ∷ 44 ∷ 48 ∷ 44 ∷ 48 ∷ 10 ∷ []

abbrev out : List ℕ
out =
    108 ∷ 105 ∷ 110 ∷ 101 ∷ 44 ∷ 119 ∷ 104 ∷ 111 ∷ 44 ∷ 97 ∷ 110 ∷ 115 ∷ 119 ∷ 101 ∷ 114 ∷ 44 ∷ 118 ∷ 97 ∷ 108 ∷ 117 ∷ 101 ∷ 10 ∷
    49 ∷ 44 ∷ 49 ∷ 44 ∷ 116 ∷ 97 ∷ 107 ∷ 101 ∷ 110 ∷ 44 ∷ 48 ∷ 10 ∷
    50 ∷ 44 ∷ 48 ∷ 44 ∷ 116 ∷ 97 ∷ 107 ∷ 101 ∷ 110 ∷ 44 ∷ 48 ∷ 10 ∷
    51 ∷ 44 ∷ 48 ∷ 44 ∷ 115 ∷ 105 ∷ 103 ∷ 110 ∷ 101 ∷ 100 ∷ 44 ∷ 48 ∷ 10 ∷
    52 ∷ 44 ∷ 51 ∷ 44 ∷ 116 ∷ 97 ∷ 107 ∷ 101 ∷ 110 ∷ 44 ∷ 49 ∷ 10 ∷
    53 ∷ 44 ∷ 51 ∷ 44 ∷ 116 ∷ 97 ∷ 107 ∷ 101 ∷ 110 ∷ 44 ∷ 50 ∷ 10 ∷
    54 ∷ 44 ∷ 48 ∷ 44 ∷ 115 ∷ 105 ∷ 103 ∷ 110 ∷ 101 ∷ 100 ∷ 44 ∷ 51 ∷ 10 ∷
    55 ∷ 44 ∷ 49 ∷ 44 ∷ 116 ∷ 97 ∷ 107 ∷ 101 ∷ 110 ∷ 44 ∷ 52 ∷ 10 ∷
    56 ∷ 44 ∷ 49 ∷ 44 ∷ 115 ∷ 105 ∷ 103 ∷ 110 ∷ 101 ∷ 100 ∷ 44 ∷ 52 ∷ 10 ∷
    57 ∷ 44 ∷ 48 ∷ 44 ∷ 116 ∷ 97 ∷ 107 ∷ 101 ∷ 110 ∷ 44 ∷ 51 ∷ 10 ∷
    49 ∷ 48 ∷ 44 ∷ 48 ∷ 44 ∷ 115 ∷ 105 ∷ 103 ∷ 110 ∷ 101 ∷ 100 ∷ 44 ∷ 53 ∷ 10 ∷
    49 ∷ 49 ∷ 44 ∷ 49 ∷ 44 ∷ 116 ∷ 97 ∷ 107 ∷ 101 ∷ 110 ∷ 44 ∷ 49 ∷ 10 ∷
    49 ∷ 50 ∷ 44 ∷ 49 ∷ 44 ∷ 115 ∷ 105 ∷ 103 ∷ 110 ∷ 101 ∷ 100 ∷ 44 ∷ 54 ∷ 10 ∷
    49 ∷ 51 ∷ 44 ∷ 51 ∷ 44 ∷ 116 ∷ 97 ∷ 107 ∷ 101 ∷ 110 ∷ 44 ∷ 55 ∷ 10 ∷
    49 ∷ 52 ∷ 44 ∷ 48 ∷ 44 ∷ 116 ∷ 97 ∷ 107 ∷ 101 ∷ 110 ∷ 44 ∷ 50 ∷ 10 ∷
    49 ∷ 53 ∷ 44 ∷ 48 ∷ 44 ∷ 100 ∷ 101 ∷ 108 ∷ 105 ∷ 118 ∷ 101 ∷ 114 ∷ 101 ∷ 100 ∷ 44 ∷ 55 ∷ 10 ∷ []

abbrev reading : List (Option Line)
reading =
    some (setup setting 8) ∷ some (send 0 1 7) ∷ some (turn 0 0) ∷ some (lie (ack 3 four 1 7)) ∷ some (lie (ack 3 four 0 8)) ∷ some (turn 0 0) ∷ some (all 1) ∷ some (turn 1 0)
    ∷ some (all 0) ∷ some (turn 0 0) ∷ some (all 1) ∷ some (turn 1 0) ∷ some (lie (store 3 four 1 7)) ∷ some (all 0) ∷ some (turn 0 0) ∷ []

reads : ReadAll new_bench (lines schedule) reading
unfolding opened lines window_numbers parted text group_parts view_text digits dec_text hex_text
reads = (
  (omega arith, omega arith, (omega arith, (omega arith, tt)), omega arith, omega arith, tt, refl),
  (
    (omega arith, omega arith, omega arith, refl),
    (
      (omega arith, omega arith, refl),
      (
        (tt, refl),
        (
          (tt, refl),
          (
            (omega arith, omega arith, refl),
            (
              (omega arith, refl),
              (
                (omega arith, omega arith, refl),
                ((omega arith, refl), ((omega arith, omega arith, refl), ((omega arith, refl), ((omega arith, omega arith, refl), ((tt, refl), ((omega arith, refl), ((omega arith, omega arith, refl), tt))))))),
              ),
            ),
          ),
        ),
      ),
    ),
  ),
)

pub printed : Printed schedule out
unfolding opened number_of pooled has_room shown_sender set_up give_to give_all after_turn turn_at lie_of step row_text rows_from lines parted view_text digits dec_text hex_text
printed = record { reading = reading; reads = λ h. reads; prints = refl }

-- in the first view one of four is marked, and nobody agrees on another
tests : T (leb (count controllers (λ k. member four k && bit 8 k)) ((member_count controllers four - 1) / 3)) × T (every_one (λ s. not (is_kind 4 s)) (final_pool reading)) × (get_elem? (final_pool reading) 0 ≡ some (prepare 0 1 7))
    × ((step (after reading 14) (some (turn 0 0))).reply ≡ record { who = 0; answer = delivered 1 7 11; number = 0 })
unfolding opened number_of pooled has_room shown_sender set_up give_to give_all after_turn turn_at lie_of step after_line after
tests = (tt, tt, refl, refl)

few : FewFaulty reading 15 8
unfolding top last
few = record { few = go }
  where
    go : (H : List View) → Sealed (ring_of 15) (final_pool reading) H → count controllers (λ k. member (top (ring_of 15) H) k && bit 8 k) ≤ (member_count controllers (top (ring_of 15) H) - 1) / 3
    go H (start e) =
        subst (λ H. count controllers (λ k. member (top (ring_of 15) H) k && bit 8 k) ≤ (member_count controllers (top (ring_of 15) H) - 1) / 3) (sym e)
        (leb→le (count controllers (λ k. member four k && bit 8 k)) ((member_count controllers four - 1) / 3) tests.0)
    go H (agreed g h i d c q) =
        let (k, (s, m, _, a)) = someone q in
        absurd ((says_all (λ s. says-not (says-kind 4 s)) (final_pool reading)).sound tests.1 s m a.kind)

rows : (get_elem? (lines out) 1 ≡ some (row_text 1 (record { who = 1; answer = taken; number = 0 })))
    × (get_elem? (lines out) 3 ≡ some (row_text 3 (record { who = 0; answer = signed (prepare 0 1 7); number = 0 })))
    × (get_elem? (lines out) 15 ≡ some (row_text 15 (record { who = 0; answer = delivered 1 7 11; number = 0 })))
unfolding lines row_text parted digits dec_text
rows = (refl, refl, refl)

begins : SetupTaken reading (InText out) 0 setting 8
begins = record { line = refl; taken = record { number = 0; row = rows.0; names = tt } }

pub record Facts : Type 0 where
  set_up : SetupTaken reading (InText out) 0 setting 8
  few : FewFaulty reading 15 8
  prepared : Says reading (InText out) 2 0 (signed (prepare 0 1 7))
  delivers : Says reading (ShownRow reading out) 14 0 (delivered 1 7 11)
  kept : Kept reading (ShownRow reading out) setting 8
  read_off : ReadOff reading out setting 8

holds : Kept reading (ShownRow reading out) setting 8 × ReadOff reading out setting 8
holds = guaranteed schedule out printed (omega arith) reading reads 0 setting 8 begins few

pub facts : Facts
facts = record {
  set_up = begins;
  few = few;
  prepared = record { number = 0; row = rows.1; names = tests.2 };
  delivers = record { number = 0; row = record { reply = record { line = some (turn 0 0); there = refl; reply = tests.3 }; row = rows.2 }; names = tt };
  kept = holds.0;
  read_off = holds.1;
}
