-- The lines of a schedule (document 01, "Bench schedule"; document 02, A1, A4). A text is the list of its bytes' numbers.
-- Assumes nothing.
use Rattle.std.specs.Prelude.{◌≡◌, ◌≢◌, List, [], ◌∷◌, ◌++◌, map, ℕ, ◌^◌, ◌<◌, ◌≤◌, T, eqb, length, if◌then◌else◌}
use Rattle.std.proofs.Math.Option.{Option, some, none}
use Rattle.protocol.specs.Statement.{Stmt, field_rules}
use Rattle.protocol.specs.Window.{Window}
use Rattle.protocol.specs.Call.{Setup}
use Rattle.text.specs.Text.{dec_text, hex_text}
use Rattle.statements.specs.Text.{parted, text}
use Rattle.statements.specs.Meaning.{Each}

-- "setup,members,sender,faulty (sets as four hexadecimal digits); join,k; leave,k; send,k,payload; give,k,n; all,k; turn,k; lie,statement."
-- "in its line the sender becomes their count, then their senders, notice 0 first". "A send line names the notice before the payload."
-- "In the setup line their count, then each one's three numbers, follow the faulty set." "A turn is given the minute of the week, .. last in its line".
-- A setup line has what the setup names, and the faulty set. A lie whose text is no statement is `no_statement`.
pub data Line : Type 0 where
  setup : Setup → ℕ → Line
  join : ℕ → Line
  leave : ℕ → Line
  send : ℕ → ℕ → ℕ → Line
  give : ℕ → ℕ → Line
  all : ℕ → Line
  turn : ℕ → ℕ → Line
  lie : Stmt → Line
  no_statement : Line

-- ---- the words, in ASCII

abbrev pub setup_word : List ℕ
setup_word = 115 ∷ 101 ∷ 116 ∷ 117 ∷ 112 ∷ []

abbrev pub join_word : List ℕ
join_word = 106 ∷ 111 ∷ 105 ∷ 110 ∷ []

abbrev pub leave_word : List ℕ
leave_word = 108 ∷ 101 ∷ 97 ∷ 118 ∷ 101 ∷ []

abbrev pub send_word : List ℕ
send_word = 115 ∷ 101 ∷ 110 ∷ 100 ∷ []

abbrev pub give_word : List ℕ
give_word = 103 ∷ 105 ∷ 118 ∷ 101 ∷ []

abbrev pub all_word : List ℕ
all_word = 97 ∷ 108 ∷ 108 ∷ []

abbrev pub turn_word : List ℕ
turn_word = 116 ∷ 117 ∷ 114 ∷ 110 ∷ []

abbrev pub lie_word : List ℕ
lie_word = 108 ∷ 105 ∷ 101 ∷ []

-- ---- reading

-- A line ends with a newline.
abbrev pub ended : List ℕ → List ℕ
ended t = t ++ (10 ∷ [])

-- "Notice numbers and the count read from 0 to 255"; so does "a setup's sender".
abbrev pub Byte : ℕ → Type 0
Byte n = n ≤ 255

-- "Window numbers, their count and minutes read from 0 to 65535; larger ones are unreadable."
abbrev pub Short : ℕ → Type 0
Short n = n ≤ 65535

-- "each one's three numbers": "weekday .., first minute, end minute".
unfoldable pub window_numbers : List Window → List ℕ
window_numbers [] = []
window_numbers (w ∷ l) = w.weekday ∷ w.first ∷ w.end ∷ window_numbers l

-- The parts of a setup line, in this order.
abbrev pub setup_parts : Setup → ℕ → List (List ℕ)
setup_parts s faulty =
    setup_word ∷ hex_text 4 s.members ∷ dec_text (length s.senders)
    ∷ (map dec_text s.senders ++ hex_text 4 faulty ∷ dec_text (length s.windows) ∷ map dec_text (window_numbers s.windows))

-- S is the line l as it is written, in a ring with this number of notices. "Here k is 0 to 15 ..; other numbers, and a last line without newline, are unreadable."
-- Payloads and statement numbers are of 64 bits. Only a lie asks the ring: a report has its four fields "for each notice of the setup (before one, for one notice)".
abbrev pub Written : ℕ → Line → List ℕ → Type 0
Written notices (setup s faulty) S =
    (s.members < 2 ^ 16) × Byte (length s.senders) × Each Byte s.senders × (faulty < 2 ^ 16) × Short (length s.windows) × Each Short (window_numbers s.windows)
    × (S ≡ ended (parted (setup_parts s faulty)))
Written notices (join k) S = (k < 16) × (S ≡ ended (parted (join_word ∷ dec_text k ∷ [])))
Written notices (leave k) S = (k < 16) × (S ≡ ended (parted (leave_word ∷ dec_text k ∷ [])))
Written notices (send k notice payload) S = (k < 16) × Byte notice × (payload < 2 ^ 64) × (S ≡ ended (parted (send_word ∷ dec_text k ∷ dec_text notice ∷ dec_text payload ∷ [])))
Written notices (give k n) S = (k < 16) × (n < 2 ^ 64) × (S ≡ ended (parted (give_word ∷ dec_text k ∷ dec_text n ∷ [])))
Written notices (all k) S = (k < 16) × (S ≡ ended (parted (all_word ∷ dec_text k ∷ [])))
Written notices (turn k minute) S = (k < 16) × Short minute × (S ≡ ended (parted (turn_word ∷ dec_text k ∷ dec_text minute ∷ [])))
Written notices (lie s) S = T (field_rules 16 notices s) × (S ≡ ended (parted (lie_word ∷ text s ∷ [])))
Written notices no_statement S = (t : List ℕ) × (S ≡ ended (parted (lie_word ∷ t ∷ []))) × ((s : Stmt) → T (field_rules 16 notices s) → t ≢ text s)

-- S reads as the line, or as none: "An unreadable line is refused there".
abbrev pub Reads : ℕ → List ℕ → Option Line → Type 0
Reads notices S (some l) = Written notices l S
Reads notices S none = (l : Line) → ¬ Written notices l S

-- ---- the lines of a schedule, each with its newline; a last part may have none

abbrev pub before : ℕ → List (List ℕ) → List (List ℕ)
before c [] = (c ∷ []) ∷ []
before c (l ∷ L) = (c ∷ l) ∷ L

unfoldable pub lines : List ℕ → List (List ℕ)
lines [] = []
lines (c ∷ S) = if eqb c 10 then (10 ∷ []) ∷ lines S else before c (lines S)
