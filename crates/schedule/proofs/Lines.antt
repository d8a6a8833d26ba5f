-- The first line of a schedule: where it ends, and what is left.
--     line-last, line_read     what was read is the first line
--     line-ended, line-tells   one that was read ends with a newline, and what it tells of its text
-- Assumes nothing.
use Prim.Native.Nat.{ℕ, suc, ◌+◌, ◌-◌, ◌<◌, ◌≤◌}
use native.Mathlib.Omega.{arith}
use native.Mathlib.Numerals.{add-one}
use mathlib.Core.Path.{◌≡◌, refl, sym, ap, subst, ◌∙◌}
use mathlib.Core.Bool.{Bool, true, false, cond}
use mathlib.Core.List.{List, [], ◌∷◌, ◌++◌}
use mathlib.Core.Option.{none}
use lib.Dec.{eqb}
use lib.ListN.{length, take, drop, get_or, length-append}
use lib.Seq.{take-suc, take_all, take-take, take-append_seam, length-take-le, drop-length}
use borrow.Author.Tests.{eqb-true}
use Rattle.std.specs.Prelude.{Option, Some, None}
use Rattle.text.specs.Text.{dec_text}
use Rattle.statements.specs.Text.{parted, text}
use Rattle.schedule.specs.declared.line.Line as held
use Rattle.schedule.specs.declared.line.ReadLine.{ReadLine}
use Rattle.schedule.specs.Line.{Line, setup, join, leave, send, give, all, turn, lie, no_statement, join_word, leave_word, send_word, give_word, all_word, turn_word, lie_word, ended, setup_parts, Written, Reads, before, lines}
use Rattle.schedule.specs.Reading.{Said, a_line, a_setup, a_lie, meant, Tells, ReadAs, body_length, Understood, LineOf}

-- ---- the length of a line without its newline
body-newline : (S : List ℕ) → body_length S < length S → get_or S (body_length S) 0 ≡ 10
unfolding body_length
body-newline [] h = absurd (omega arith)
body-newline (c ∷ S) h = go (eqb c 10) refl (body-newline S)
  where
    go : (t : Bool) → eqb c 10 ≡ t → (body_length S < length S → get_or S (body_length S) 0 ≡ 10) → get_or (c ∷ S) (cond t 0 (suc (body_length S))) 0 ≡ 10
    go true e ih = eqb-true c 10 e
    go false e ih = ih (let k = simp e at h in omega arith)

-- a line that has its newline ends there or before
body_ended : (t : List ℕ) → body_length (ended t) ≤ length t
unfolding body_length
body_ended [] = omega arith
body_ended (c ∷ t) = go (eqb c 10) (body_ended t)
  where
    go : (b : Bool) → body_length (ended t) ≤ length t → cond b 0 (suc (body_length (ended t))) ≤ suc (length t)
    go true h = omega arith
    go false h = omega arith

-- ---- the lines
lines-first : (S : List ℕ) → body_length S < length S → lines S ≡ take (suc (body_length S)) S ∷ lines (drop (suc (body_length S)) S)
unfolding body_length lines
lines-first [] h = absurd (omega arith)
lines-first (c ∷ S) h = go (eqb c 10) refl (lines-first S)
  where
    go : (t : Bool) → eqb c 10 ≡ t → (body_length S < length S → lines S ≡ take (suc (body_length S)) S ∷ lines (drop (suc (body_length S)) S)) → lines (c ∷ S) ≡ take (suc (body_length (c ∷ S))) (c ∷ S) ∷ lines (drop (suc (body_length (c ∷ S))) (c ∷ S))
    go true e ih = rw e (ap (λ (x : ℕ). (x ∷ []) ∷ lines S) (sym (eqb-true c 10 e)))
    go false e ih = rw e (ap (before c) (ih (let k = simp e at h in omega arith)))

lines-last : (S : List ℕ) → 0 < length S → length S ≤ body_length S → lines S ≡ S ∷ []
unfolding body_length lines
lines-last [] h k = absurd (omega arith)
lines-last (c ∷ S) h k = go (eqb c 10) refl S refl (lines-last S)
  where
    go : (t : Bool) → eqb c 10 ≡ t → (R : List ℕ) → R ≡ S → (0 < length S → length S ≤ body_length S → lines S ≡ S ∷ []) → lines (c ∷ S) ≡ (c ∷ S) ∷ []
    go true e R q ih = absurd (let j = simp e at k in omega arith)
    go false e [] q ih = rw (e, ← q)
    go false e (x ∷ R) q ih = rw e (ap (before c) (ih (omega (arith, ap length q)) (let j = simp e at k in omega arith)))

-- ---- a line that is written so ends with a newline
pub written-ended : (S : List ℕ) (notices : ℕ) (l : Line) → Written notices l S → (t : List ℕ) × (S ≡ ended t)
written-ended S n (setup s f) w = (parted (setup_parts s f), w.6)
written-ended S n (join k) w = (parted (join_word ∷ dec_text k ∷ []), w.1)
written-ended S n (leave k) w = (parted (leave_word ∷ dec_text k ∷ []), w.1)
written-ended S n (send k i p) w = (parted (send_word ∷ dec_text k ∷ dec_text i ∷ dec_text p ∷ []), w.3)
written-ended S n (give k i) w = (parted (give_word ∷ dec_text k ∷ dec_text i ∷ []), w.2)
written-ended S n (all k) w = (parted (all_word ∷ dec_text k ∷ []), w.1)
written-ended S n (turn k m) w = (parted (turn_word ∷ dec_text k ∷ dec_text m ∷ []), w.2)
written-ended S n (lie s) w = (parted (lie_word ∷ text s ∷ []), w.1)
written-ended S n no_statement w = (parted (lie_word ∷ w.0 ∷ []), w.1)

no-newline : (S : List ℕ) → length S ≤ body_length S → (notices : ℕ) → Reads notices S none
no-newline S h n l w =
    let (t, e) = written-ended S n l w in
    omega (arith, ap length e ∙ length-append t (10 ∷ []), ap body_length e, body_ended t)

-- nothing follows the last line
last-alone : (S : List ℕ) → S ∷ [] ≡ take (length S) S ∷ lines (drop (length S) S)
unfolding lines
last-alone S = rw (take_all (length S) S (omega arith), drop-length S)

module _ (S : List ℕ) (end : ℕ) (e : end ≡ body_length S) where
  pub line-last : length S ≤ end → LineOf S (record { parsed = None; next = length S })
  line-last h = record {
    moves = λ p. p;
    within = omega arith;
    first = λ p. lines-last S p (omega arith) ∙ last-alone S;
    reads = rw (take_all (length S) S (omega arith)) (no-newline S (omega arith));
  }

  pub line_read : (p : Option held.Line) (next : ℕ) → next ≡ end + 1 → end < length S → Understood (take end S) p → LineOf S (record { parsed = p; next = next })
  line_read p next q h u =
      let n : next ≡ suc end = q ∙ add-one end in
      let k : body_length S < length S = omega arith in
      let whole : take next S ≡ ended (take end S) = ap (λ (i : ℕ). take i S) n ∙ take-suc S end 0 h ∙ ap (λ (c : ℕ). take end S ++ (c ∷ [])) (ap (λ (i : ℕ). get_or S i 0) e ∙ body-newline S k) in record {
        moves = λ z. omega arith;
        within = omega arith;
        first = λ z. lines-first S k ∙ ap (λ (i : ℕ). take i S ∷ lines (drop i S)) (sym (n ∙ ap suc e));
        reads = subst (ReadAs p) (sym whole) u.reads;
      }

-- ---- what a loop over the lines cites
told-ended : (S : List ℕ) (o : Said) → Tells o S → (t : List ℕ) × (S ≡ ended t)
told-ended S (a_line l) w = written-ended S 0 l (w 0)
told-ended S a_setup w = written-ended S 0 (setup w.0 w.1) (w.2 0)
told-ended S a_lie w = (parted (lie_word ∷ w.0 ∷ []), w.1)

-- the first n bytes of S are a line with its newline, so the line is one byte shorter
shorter : (S t : List ℕ) (n : ℕ) → n ≤ length S → take n S ≡ ended t → t ≡ take (n - 1) S
shorter S t n h e =
    let long : length t + 1 ≡ n = omega (arith, sym (ap length e ∙ length-append t (10 ∷ [])), length-take-le n S h) in
    let less : length t ≡ n - 1 = omega arith in
    sym (take-append_seam t (10 ∷ [])) ∙ ap (take (length t)) (sym e) ∙ take-take (length t) n S (omega arith) ∙ ap (λ (i : ℕ). take i S) less

module _ (S : List ℕ) (r : ReadLine) (of : LineOf S r) (l : held.Line) (e : r.parsed ≡ Some l) where
  tells : Tells (meant l) (take r.next S)
  tells = subst (λ (p : Option held.Line). ReadAs p (take r.next S)) e of.reads

  -- a line that was read, without its newline
  pub line-ended : take r.next S ≡ ended (take (r.next - 1) S)
  line-ended =
      let (t, q) = told-ended (take r.next S) (meant l) tells in
      q ∙ ap ended (shorter S t r.next of.within q)

  pub line-tells : Tells (meant l) (ended (take (r.next - 1) S))
  line-tells = subst (Tells (meant l)) line-ended tells
