-- What a line that was read means, and what the functions that read it promise each other. T is a line without its newline.
-- Assumes nothing.
use Rattle.std.specs.Prelude.{ℕ, suc, ◌<◌, ◌≤◌, min, ◌≡◌, cond, List, [], ◌∷◌, ◌++◌, Option, Some, None, IfSome, IfNone, eqb, length, take, drop, get_or}
use Rattle.std.specs.Option.{option_map, IsSomeAnd}
use Rattle.std.specs.List.{starts_with}
use Rattle.std.proofs.Math.Option.{none}
use Rattle.protocol.specs.Statement.{Stmt}
use Rattle.protocol.specs.Window.{Window}
use Rattle.protocol.specs.Call as call
use Rattle.text.specs.declared.Read.{Read}
use Rattle.text.specs.Scan.{read}
use Rattle.text.specs.Text.{dec_text, hex_text}
use Rattle.windows.specs.Windows.{window_of, window_in}
use Rattle.statements.specs.declared.Statement.{Statement}
use Rattle.statements.specs.Text.{parted}
use Rattle.statements.specs.Meaning.{stmt_of, Many}
use Rattle.statements.specs.Parts as parts
use Rattle.statements.specs.Parts.{each, comma_number, From}
use Rattle.schedule.specs.declared.line.Line as held
use Rattle.schedule.specs.declared.line.Line.TheVariants as is
use Rattle.schedule.specs.declared.line.ReadLine.{ReadLine}
use Rattle.schedule.specs.declared.line.ReadSetup.{ReadSetup}
use Rattle.schedule.specs.declared.verb.Verb.{Verb}
use Rattle.schedule.specs.declared.verb.Verb.TheVariants.{Setup, Join, Leave, Send, Give, All, Turn, Lie, Unknown}
use Rattle.schedule.specs.Line.{Line, setup, join, leave, send, give, all, turn, lie, setup_word, join_word, leave_word, send_word, give_word, all_word, turn_word, lie_word, ended, Byte, Short, Written, Reads, lines}

-- ---- what was read

-- What a line that was read says: the line itself; or that it is a setup or a lie, which is read apart.
pub data Said : Type 0 where
  a_line : Line → Said
  a_setup : Said
  a_lie : Said

abbrev pub meant : held.Line → Said
meant is.Setup = a_setup
meant (is.Join k) = a_line (join k)
meant (is.Leave k) = a_line (leave k)
meant (is.Send k notice payload) = a_line (send k notice payload)
meant (is.Give k n) = a_line (give k n)
meant (is.All k) = a_line (all k)
meant (is.Turn k minute) = a_line (turn k minute)
meant is.Lie = a_lie

-- The text S says so, in a ring with any number of notices.
abbrev pub Tells : Said → List ℕ → Type 0
Tells (a_line l) S = (notices : ℕ) → Written notices l S
Tells a_setup S = (s : call.Setup) × (faulty : ℕ) × ((notices : ℕ) → Written notices (setup s faulty) S)
Tells a_lie S = (t : List ℕ) × (S ≡ ended (parted (lie_word ∷ t ∷ [])))

-- S was read as p, or is unreadable.
abbrev pub ReadAs : Option held.Line → List ℕ → Type 0
ReadAs (Some l) S = Tells (meant l) S
ReadAs None S = (notices : ℕ) → Reads notices S none

-- The line T was read as p.
pub record Understood (T : List ℕ) (p : Option held.Line) : Type 0 where
  pub reads : ReadAs p (ended T)

-- READING A LINE: r is what the first line of S was read as, and S goes on at r.next.
pub record LineOf (S : List ℕ) (r : ReadLine) : Type 0 where
  pub moves : 0 < length S → 0 < r.next
  pub within : r.next ≤ length S
  pub first : 0 < length S → lines S ≡ take r.next S ∷ lines (drop r.next S)
  pub reads : ReadAs r.parsed (take r.next S)

-- The line T was read as a lie.
pub record Lying (T : List ℕ) : Type 0 where
  pub tells : Tells a_lie (ended T)

-- READING A LIE'S STATEMENT in a ring with this number of notices, at most 64: T is the lie of the statement that r means with the block B, which keeps the field rules,
-- or the lie of none. It may be any text.
pub record LiedOf (T : List ℕ) (notices : ℕ) (B : List ℕ) (r : Option Statement) : Type 0 where
  pub told : IfSome r (λ s. Written (min notices 64) (lie (stmt_of s B)) (ended T))
  pub untold : IfNone r ((s : Stmt) → ¬ Written (min notices 64) (lie s) (ended T))
  pub near : IfSome r (λ s. s.origin < 16)
  pub short : IfSome r (λ s. s.history.len ≤ 16)

-- The line T was read as a setup.
pub record SettingUp (T : List ℕ) : Type 0 where
  pub tells : Tells a_setup (ended T)

-- The memory S has the first of the values, as many as it has places, by what each of its words means.
pub record StandIn {A : Type 0} (means : ℕ → A) (blank : A) (places : ℕ) (S : List ℕ) (values : List A) : Type 0 where
  pub each : (i : ℕ) → i < length values → i < places → means (get_or S i 0) ≡ get_or values i blank

-- The memory S has the first 64 of the senders.
abbrev pub SendersIn : List ℕ → List ℕ → Type 0
SendersIn S senders = StandIn (λ k. k) 0 64 S senders

-- The default past the end of a list of windows.
abbrev pub no_window : Window
no_window = window_of 0 0 0

-- The memory W has the first 8 of the windows.
abbrev pub WindowsIn : List ℕ → List Window → Type 0
WindowsIn W windows = StandIn window_in no_window 8 W windows

-- The line T is the setup that r says, with these senders and windows.
pub record ReadsSetup (T S W : List ℕ) (r : ReadSetup) : Type 0 where
  pub senders : List ℕ
  pub windows : List Window
  pub count : length senders ≡ r.count
  pub stand : SendersIn S senders
  pub window-count : length windows ≡ r.windows
  pub windows-stand : WindowsIn W windows
  pub written : (notices : ℕ) → Written notices (setup (record { members = r.members; senders = senders; windows = windows }) r.faulty) (ended T)

-- READING A SETUP: T is the setup that r says, of the senders whose first 64 stand in the memory S after it and the windows whose first 8 stand in W, or no setup. It may be any text.
pub record SetupOf (T S W : List ℕ) (r : Option ReadSetup) : Type 0 where
  pub told : IfSome r (λ s. ReadsSetup T S W s)
  pub untold : IfNone r ((notices : ℕ) (s : call.Setup) (faulty : ℕ) → ¬ Written notices (setup s faulty) (ended T))

-- ---- the line's end and its first word

-- How many bytes stand before the newline.
unfoldable pub body_length : List ℕ → ℕ
body_length [] = 0
body_length (c ∷ S) = cond (eqb c 10) 0 (suc (body_length S))

abbrev pub verb_text : Verb → List ℕ
verb_text Setup = setup_word
verb_text Join = join_word
verb_text Leave = leave_word
verb_text Send = send_word
verb_text Give = give_word
verb_text All = all_word
verb_text Turn = turn_word
verb_text Lie = lie_word
verb_text Unknown = []

-- No word begins with another, so the order of the tests is free.
unfoldable pub verb_of : List ℕ → Verb
verb_of T =
    cond (starts_with eqb T turn_word) Turn (cond (starts_with eqb T all_word) All (cond (starts_with eqb T give_word) Give (cond (starts_with eqb T join_word) Join
    (cond (starts_with eqb T leave_word) Leave (cond (starts_with eqb T send_word) Send (cond (starts_with eqb T setup_word) Setup (cond (starts_with eqb T lie_word) Lie Unknown)))))))

-- ---- the fields, each with the comma before it

-- A number that ends the line.
pub record LastAt (T : List ℕ) (at most : ℕ) (r : Option ℕ) : Type 0 where
  pub only : IfSome r (λ v. drop at T ≡ 44 ∷ dec_text v)
  pub back : (v : ℕ) → v ≤ most → drop at T ≡ 44 ∷ dec_text v → IsSomeAnd r (λ w. w ≡ v)
  pub low : IfSome r (λ v. v ≤ most)

pub record SetAt (T : List ℕ) (at : ℕ) (r : Option (Read ℕ)) : Type 0 where
  pub only : IfSome r (λ p. drop at T ≡ 44 ∷ (hex_text 4 p.value ++ drop p.next T))
  pub back : (v : ℕ) (rest : List ℕ) → v < 65536 → drop at T ≡ 44 ∷ (hex_text 4 v ++ rest) → IsSomeAnd r (λ p. (p.value ≡ v) × (drop p.next T ≡ rest))
  pub low : IfSome r (λ p. p.value < 65536)

-- ---- values that are told one after the other, and put into a memory

-- How a value is written with the comma before it, which values are read, what a word of the memory means, the default past the end of a list, and how many places the memory has.
pub record Values (A : Type 0) : Type 1 where
  pub text : A → List ℕ
  pub Fit : A → Type 0
  pub means : ℕ → A
  pub blank : A
  pub places : ℕ

-- A window's numbers, each with its comma, and how large they may be.
abbrev pub window_text : Window → List ℕ
window_text w = comma_number w.weekday ++ (comma_number w.first ++ comma_number w.end)

abbrev pub ShortWindow : Window → Type 0
ShortWindow w = Short w.weekday × Short w.first × Short w.end

-- A setup's senders, and its windows.
abbrev pub the_senders : Values ℕ
the_senders = record { text = comma_number; Fit = Byte; means = λ k. k; blank = 0; places = 64 }

abbrev pub the_windows : Values Window
the_windows = record { text = window_text; Fit = ShortWindow; means = window_in; blank = no_window; places = 8 }

-- One value, by its word.
pub record OneAt {A : Type 0} (K : Values A) (T : List ℕ) (at : ℕ) (r : Option (Read ℕ)) : Type 0 where
  pub fits : IfSome r (λ p. K.Fit (K.means p.value))
  pub from : From K.text K.Fit T at (parts.meant K.means r)

-- n values. What follows them begins at the position that r tells.
pub record ManyAt {A : Type 0} (K : Values A) (T : List ℕ) (at n : ℕ) (S : List ℕ) (r : Option ℕ) : Type 0 where
  pub values : List A
  pub many : IfSome r (λ _. Many K.Fit n values)
  pub stand : StandIn K.means K.blank K.places S values
  pub from : From (each K.text) (Many K.Fit n) T at (option_map (λ next. read values next) r)

-- ---- the same of any step that reads one value: r from the position

-- The step read these, one after the other, from one position to another.
abbrev pub Run : {X : Type 0} → (ℕ → Option (Read X) → Type 0) → List X → ℕ → ℕ → Type 0
Run step [] at end = at ≡ end
Run step (x ∷ l) at end = (next : ℕ) × step at (Some (read x next)) × Run step l next end

-- The memory S has the first of the values in its places.
abbrev pub Placed : {X : Type 0} → ℕ → List X → List X → Type 0
Placed {X} places S values = (i : ℕ) (d : X) → i < length values → i < places → get_or S i d ≡ get_or values i d

-- n values were read, or fewer and then none.
pub record ManyRead {X : Type 0} (step : ℕ → Option (Read X) → Type 0) (places at n : ℕ) (S : List X) (r : Option ℕ) : Type 0 where
  pub values : List X
  pub position : ℕ
  pub run : Run step values at position
  pub placed : Placed places S values
  pub all : IfSome r (λ end. (length values ≡ n) × (position ≡ end))
  pub refused : IfNone r ((length values < n) × step position None)

-- ---- which word the line begins with
abbrev pub IsNamed : Verb → Type 0
IsNamed Setup = ⊥
IsNamed Join = Unit {0}
IsNamed Leave = Unit {0}
IsNamed Send = ⊥
IsNamed Give = ⊥
IsNamed All = Unit {0}
IsNamed Turn = ⊥
IsNamed Lie = ⊥
IsNamed Unknown = ⊥

pub record NamedBy (T : List ℕ) (v : Verb) (at : ℕ) : Type 0 where
  pub word : v ≡ verb_of T
  pub place : at ≡ length (verb_text v)
  pub named : IsNamed v

-- The line T begins with the word.
pub record BeginsWith (v : Verb) (T : List ℕ) : Type 0 where
  pub word : v ≡ verb_of T
