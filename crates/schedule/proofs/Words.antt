-- The word that a line begins with, and that it tells which lines the text can be.
-- Assumes nothing.
use Prim.Native.Nat.{ℕ}
use native.Mathlib.Omega.{arith}
use mathlib.Core.Path.{◌≡◌, refl, sym, ap, subst, ◌∙◌}
use mathlib.Core.Bool.{Bool, true, false, cond}
use mathlib.Core.List.{List, [], ◌∷◌, ◌++◌}
use mathlib.Core.Option.{none}
use lib.Dec.{eqb}
use lib.ListN.{length, take, drop, length-append}
use lib.Seq.{take-append_seam}
use lib.Pointwise.{bytes_decides}
use Rattle.std.specs.List.{starts_with}
use Rattle.std.proofs.Common.{take-append-drop}
use Rattle.protocol.specs.Statement.{Stmt}
use Rattle.protocol.specs.Call as call
use Rattle.text.specs.Text.{dec_text}
use Rattle.statements.specs.Text.{parted, text}
use Rattle.schedule.specs.declared.verb.Verb.{Verb}
use Rattle.schedule.specs.declared.verb.Verb.TheVariants.{Setup, Join, Leave, Send, Give, All, Turn, Lie, Unknown}
use Rattle.schedule.specs.Line.{Line, setup, join, leave, send, give, all, turn, lie, no_statement, join_word, leave_word, send_word, give_word, all_word, turn_word, lie_word, ended, setup_parts, Written, Reads}
use Rattle.schedule.specs.Reading.{verb_text, verb_of}

-- ---- a text begins with its word
pub starts-only : (T w : List ℕ) → starts_with eqb T w ≡ true → T ≡ w ++ drop (length w) T
starts-only T w e = sym (take-append-drop (length w) T) ∙ ap (λ l. l ++ drop (length w) T) (sym ((bytes_decides w (take (length w) T)).0 e))

abbrev Begins : List ℕ → Verb → Type 0
Begins T v = T ≡ verb_text v ++ drop (length (verb_text v)) T

begins-if : (T : List ℕ) (v u : Verb) → Begins T u → Begins T (cond (starts_with eqb T (verb_text v)) v u)
begins-if T v u b = go (starts_with eqb T (verb_text v)) refl
  where
    go : (t : Bool) → starts_with eqb T (verb_text v) ≡ t → Begins T (cond t v u)
    go true e = starts-only T (verb_text v) e
    go false e = b

verb-begins : (T : List ℕ) → Begins T (verb_of T)
unfolding verb_of
verb-begins T =
    begins-if T Turn _ (begins-if T All _ (begins-if T Give _ (begins-if T Join _ (begins-if T Leave _ (begins-if T Send _ (begins-if T Setup _ (begins-if T Lie _ refl)))))))

pub begins : (T : List ℕ) (v : Verb) → v ≡ verb_of T → T ≡ verb_text v ++ drop (length (verb_text v)) T
begins T v e = subst (Begins T) (sym e) (verb-begins T)

-- ---- a line's newline
pub ended_same : (a b : List ℕ) → ended a ≡ ended b → a ≡ b
ended_same a b e =
    let n : length a ≡ length b = omega (arith, ap length e, length-append a (10 ∷ []), length-append b (10 ∷ [])) in
    sym (take-append_seam a (10 ∷ [])) ∙ ap (take (length a)) e ∙ ap (λ (k : ℕ). take k (ended b)) n ∙ take-append_seam b (10 ∷ [])

-- ---- the word of a line
abbrev pub verb_is : Line → Verb
verb_is (setup s faulty) = Setup
verb_is (join k) = Join
verb_is (leave k) = Leave
verb_is (send k notice payload) = Send
verb_is (give k n) = Give
verb_is (all k) = All
verb_is (turn k minute) = Turn
verb_is (lie s) = Lie
verb_is no_statement = Lie

pub written-verb : (T : List ℕ) (notices : ℕ) (l : Line) → Written notices l (ended T) → verb_of T ≡ verb_is l
unfolding verb_of parted
written-verb T n (setup s f) w = ap verb_of (ended_same T (parted (setup_parts s f)) w.6)
written-verb T n (join k) w = ap verb_of (ended_same T (parted (join_word ∷ dec_text k ∷ [])) w.1)
written-verb T n (leave k) w = ap verb_of (ended_same T (parted (leave_word ∷ dec_text k ∷ [])) w.1)
written-verb T n (send k i p) w = ap verb_of (ended_same T (parted (send_word ∷ dec_text k ∷ dec_text i ∷ dec_text p ∷ [])) w.3)
written-verb T n (give k i) w = ap verb_of (ended_same T (parted (give_word ∷ dec_text k ∷ dec_text i ∷ [])) w.2)
written-verb T n (all k) w = ap verb_of (ended_same T (parted (all_word ∷ dec_text k ∷ [])) w.1)
written-verb T n (turn k m) w = ap verb_of (ended_same T (parted (turn_word ∷ dec_text k ∷ dec_text m ∷ [])) w.2)
written-verb T n (lie s) w = ap verb_of (ended_same T (parted (lie_word ∷ text s ∷ [])) w.1)
written-verb T n no_statement w = ap verb_of (ended_same T (parted (lie_word ∷ w.0 ∷ [])) w.1)

-- P holds of every line with this word.
abbrev pub OfVerb : Verb → (Line → Type 0) → Type 0
OfVerb Setup P = (s : call.Setup) (f : ℕ) → P (setup s f)
OfVerb Join P = (k : ℕ) → P (join k)
OfVerb Leave P = (k : ℕ) → P (leave k)
OfVerb Send P = (k i n : ℕ) → P (send k i n)
OfVerb Give P = (k n : ℕ) → P (give k n)
OfVerb All P = (k : ℕ) → P (all k)
OfVerb Turn P = (k m : ℕ) → P (turn k m)
OfVerb Lie P = ((s : Stmt) → P (lie s)) × P no_statement
OfVerb Unknown P = Unit {0}

pub of-verb : (l : Line) (P : Line → Type 0) → OfVerb (verb_is l) P → P l
of-verb (setup s f) P o = o s f
of-verb (join k) P o = o k
of-verb (leave k) P o = o k
of-verb (send k i n) P o = o k i n
of-verb (give k n) P o = o k n
of-verb (all k) P o = o k
of-verb (turn k m) P o = o k m
of-verb (lie s) P o = o.0 s
of-verb no_statement P o = o.1

-- The text T is written as no line such as l.
abbrev pub NotSo : List ℕ → Line → Type 0
NotSo T l = (notices : ℕ) → ¬ Written notices l (ended T)

-- A text whose word tells of no line that it is written so reads as none.
pub reads_none : (T : List ℕ) (v : Verb) → v ≡ verb_of T → OfVerb v (NotSo T) → (notices : ℕ) → Reads notices (ended T) none
reads_none T v e o n l w = of-verb l (NotSo T) (subst (λ u. OfVerb u (NotSo T)) (e ∙ written-verb T n l w) o) n w
