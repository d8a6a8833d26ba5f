-- Who signed, computed: only members are in a set, each that signed is, and the least top is the least as written.
-- Assumes nothing.
use mathlib.Core.Path.{◌≡◌, refl}
use mathlib.Core.Bool.{true, false}
use mathlib.Core.List.{List, [], ◌∷◌}
use Rattle.protocol.specs.View.{View}
use Rattle.protocol.specs.Statement.{Stmt, join, leave, agree_view, agree_history, prepare, ack, store, acks}
use Rattle.protocol.specs.Count.{count_quorum}
use Rattle.protocol.specs.Signers.{signers, makes_quorum, ack_set, store_set}
use Rattle.protocol.specs.Call.{initial_view, ring_of}
use Rattle.examples.proofs.Opened.{opened}

-- ---- one view of four, of which three are a quorum

abbrev four : View
four = initial_view 15

-- one signs twice, controller 4 is no member, and 3 signs after the quorum is complete
abbrev acked : List Stmt
acked = prepare 0 0 7 ∷ ack 1 four 0 7 ∷ ack 1 four 0 7 ∷ ack 4 four 0 7 ∷ ack 0 four 0 7 ∷ ack 2 four 0 7 ∷ ack 3 four 0 7 ∷ ack 2 four 0 8 ∷ []

-- the count reads six of eight statements for 7, and all for 8
pub counts : (count_quorum 16 four (acks four 0 7) acked ∷ count_quorum 16 four (acks four 0 8) acked ∷ []) ≡ (record { reached = true; read = 6 } ∷ record { reached = false; read = 8 } ∷ [])
unfolding opened
counts = refl

-- the sets have all who signed, also after the quorum; the first makes one
pub sets : (signers 16 acked four (acks four 0 7) ∷ signers 16 acked four (acks four 0 8) ∷ []) ≡ (15 ∷ 4 ∷ [])
unfolding opened
sets = refl

pub quorums : (makes_quorum 16 four 15 ∷ makes_quorum 16 four 4 ∷ []) ≡ (true ∷ false ∷ [])
unfolding opened
quorums = refl

-- the screen's sets: of a certificate; without a quorum; without the sender's prepare; of a notice that the setup lacks
pub shown : (ack_set (ring_of 15) (0 ∷ []) acked 0 7 ∷ ack_set (ring_of 15) (0 ∷ []) acked 0 8 ∷ ack_set (ring_of 15) (3 ∷ []) acked 0 7 ∷ ack_set (ring_of 15) [] acked 0 7 ∷ []) ≡ (15 ∷ 0 ∷ 0 ∷ 0 ∷ [])
unfolding opened
shown = refl

-- ---- two sealed tops, by a liar

abbrev alone : View
alone = initial_view 1

-- 00030001 is written before 00050000, although 00050000 has fewer bits and was acked first
abbrev small : View
small = record { joined = 5; left = 0 }

abbrev early : View
early = record { joined = 3; left = 1 }

abbrev forked : List Stmt
forked =
    join 1 ∷ join 2 ∷ leave 0 ∷ agree_view 0 alone small ∷ agree_view 0 alone early ∷ agree_history 0 alone (alone ∷ small ∷ []) ∷ agree_history 0 alone (alone ∷ early ∷ [])
    ∷ prepare 0 0 7 ∷ ack 0 small 0 7 ∷ ack 2 small 0 7 ∷ ack 1 early 0 7 ∷ store 1 early 0 7 ∷ store 0 alone 0 7 ∷ []

-- controller 1 alone acked at 00030001; of the stores, that at the initial view stands at the least top
pub least : (ack_set (ring_of 1) (0 ∷ []) forked 0 7 ∷ store_set (ring_of 1) forked 0 7 ∷ []) ≡ (2 ∷ 1 ∷ [])
unfolding opened
least = refl
