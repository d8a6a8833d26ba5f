-- The text of a service screen: its lines in runs, how long they are, and that they are what the record shows.
--     lines-shown   the lines of the evidence are the text of what it is of
-- Assumes nothing.
use Rattle.std.specs.Prelude.{if◌then◌else◌}
use Prim.Native.Nat.{ℕ, zero, suc, ◌+◌, ◌*◌, ◌/◌, ◌%◌, ◌<◌, ◌≤◌}
use native.Mathlib.Omega.{arith}
use native.Mathlib.Numerals.{add-one}
use mathlib.Core.Path.{◌≡◌, refl, sym, ap, ap₂, subst, ◌∙◌}
use mathlib.Core.Bool.{Bool, true, false, not}
use mathlib.Core.List.{List, [], ◌∷◌, ◌++◌, append_assoc, append-nil}
use mathlib.Core.Option.{Option, some, none}
use lib.Dec.{T, eqb, ltb}
use lib.ListN.{length, get_or, length-append}
use borrow.Author.Tests.{ltb-false}
use Rattle.text.specs.Text.{glyph, dec_text, hex_text}
use Rattle.text.proofs.Decimal.{long-below, most-long}
use Rattle.text.specs.Written.{Wrote}
use Rattle.text.proofs.Stores.{both, wrote_as}
use Rattle.protocol.specs.Sets.{bit}
use Rattle.protocol.specs.Lists.{first, when, list_of}
use Rattle.protocol.specs.View.{View, Ring}
use Rattle.protocol.specs.Statement.{Stmt}
use Rattle.protocol.specs.Evidence.{candidates, certificates, is_conflict, is_stored}
use Rattle.protocol.specs.Count.{complete_after}
use Rattle.protocol.proofs.Found.{none≢some, some-injective}
use Rattle.protocol.proofs.Histories.{sealed-short}
use Rattle.protocol.proofs.Asked.{greatest-holds}
use Rattle.views.specs.View.{view_of, view_in, views_of}
use Rattle.views.proofs.Tables.{views-count}
use Rattle.statements.specs.Text.{parted, view_text}
use Rattle.statements.specs.Parts.{each, tail_text}
use Rattle.statements.proofs.Fields.{view-long}
use Rattle.statements.proofs.Views.{tail-long, tail_more}
use Rattle.evidence.specs.declared.Evidence.{Evidence}
use Rattle.evidence.specs.Evidence.{EvidenceOf}
use Rattle.statements.proofs.Statements.{parted-tail}
use Rattle.screen.specs.Screen.{wished_word, candidates_word, greatest_word, certificate_word, line_text, views_line, wished_line, conflict_line, candidates_line, certificate_line, uncertified_line, line_for, lines_below, or_none, certificates_text, agreed_text, screen_text, ScreenShows}
use Rattle.screen.specs.ScreenParts.{kept_or_stored, notice_text, lines_to, certified_text, agreed_lines, lines_of, Few}

-- ---- the text of a view is that of its sets' sixteen low bits
hex-more : (k a b : ℕ) → hex_text k (a / 16) ≡ hex_text k (b / 16) → a % 16 ≡ b % 16 → hex_text (suc k) a ≡ hex_text (suc k) b
unfolding hex_text
hex-more k a b e f = ap₂ (λ (t : List ℕ) (d : ℕ). t ++ (glyph d ∷ [])) e f

hex-low : (a b : ℕ) → a % 65536 ≡ b % 65536 → hex_text 4 a ≡ hex_text 4 b
unfolding hex_text
hex-low a b e = hex-more 3 a b (hex-more 2 (a / 16) (b / 16) (hex-more 1 (a / 16 / 16) (b / 16 / 16) (hex-more 0 (a / 16 / 16 / 16) (b / 16 / 16 / 16) refl (omega arith)) (omega arith)) (omega arith)) (omega arith)

view-text : (w : ℕ) → view_text (view_in w) ≡ view_text (view_of w)
unfolding view_text view_in view_of
view-text w = ap₂ (λ (a : List ℕ) (b : List ℕ). a ++ b) (hex-low (w % 65536) (w % 4294967296) (omega arith)) (hex-low (w / 4294967296 % 65536) (w / 4294967296 % 4294967296) (omega arith))

-- a struct read from the word w, which is the word x of a list
pub word-text : (w x : ℕ) (v : View) → v ≡ view_in w → w ≡ x → view_text v ≡ view_text (view_of x)
word-text w x v e f = ap view_text e ∙ view-text w ∙ ap (λ (u : ℕ). view_text (view_of u)) f

-- ---- one view more of some words
pub words-first : (out ws : List ℕ) (from : ℕ) → Wrote out from (tail_text (views_of ws 0)) from out
unfolding each views_of list_of
words-first out ws from = record { next = omega arith; is = refl }

pub words_long : (ws : List ℕ) (n : ℕ) → length (tail_text (views_of ws n)) ≡ 9 * n
words_long ws n = tail-long (views_of ws n) ∙ ap (λ k. 9 * k) (views-count ws n)

words_more : (ws : List ℕ) (i : ℕ) → views_of ws (i + 1) ≡ views_of ws i ++ (view_of (get_or ws i 0) ∷ [])
unfolding views_of list_of
words_more ws i = rw (add-one i)

pub words-next : {out₀ out₁ out₂ : List ℕ} {from at n : ℕ} (ws : List ℕ) (i : ℕ) (v : View) → view_text v ≡ view_text (view_of (get_or ws i 0)) → Wrote out₀ from (tail_text (views_of ws i)) at out₁
    → Wrote out₁ at (44 ∷ view_text v) n out₂ → Wrote out₀ from (tail_text (views_of ws (i + 1))) n out₂
words-next ws i v e a b = tail_more (views_of ws i) (views_of ws (i + 1)) (view_of (get_or ws i 0)) (words_more ws i) a (wrote_as (ap (λ (t : List ℕ). 44 ∷ t) e) b)

-- ---- lines in runs
wished-runs : (v : View) → wished_line v ≡ wished_word ++ ((44 ∷ view_text v) ++ (10 ∷ []))
unfolding wished_line line_text parted
wished-runs v = refl

views-runs : (name : List ℕ) (l : List View) → views_line name l ≡ name ++ ((44 ∷ dec_text (length l)) ++ (tail_text l ++ (10 ∷ [])))
unfolding views_line line_text parted
views-runs name l =
    ap (λ (t : List ℕ). (name ++ 44 ∷ t) ++ (10 ∷ [])) (parted-tail (dec_text (length l)) l)
    ∙ append_assoc name (44 ∷ (dec_text (length l) ++ tail_text l)) (10 ∷ []) ∙ ap (λ (t : List ℕ). name ++ 44 ∷ t) (append_assoc (dec_text (length l)) (tail_text l) (10 ∷ []))

held-runs : (name ws : List ℕ) (n : ℕ) → views_line name (views_of ws n) ≡ name ++ ((44 ∷ dec_text n) ++ (tail_text (views_of ws n) ++ (10 ∷ [])))
held-runs name ws n = views-runs name (views_of ws n) ∙ ap (λ (k : ℕ). name ++ ((44 ∷ dec_text k) ++ (tail_text (views_of ws n) ++ (10 ∷ [])))) (views-count ws n)

-- the end of a certificate's line, from its payload on
paid-runs : (m : ℕ) (stored : Bool) (after : ℕ) → (dec_text m ++ 44 ∷ (kept_or_stored stored ++ 44 ∷ dec_text after)) ++ (10 ∷ []) ≡ dec_text m ++ ((44 ∷ kept_or_stored stored) ++ ((44 ∷ dec_text after) ++ (10 ∷ [])))
paid-runs m stored after =
    append_assoc (dec_text m) (44 ∷ (kept_or_stored stored ++ 44 ∷ dec_text after)) (10 ∷ [])
    ∙ ap (λ (t : List ℕ). dec_text m ++ 44 ∷ t) (append_assoc (kept_or_stored stored) (44 ∷ dec_text after) (10 ∷ []))

-- a certificate's line, with its notice's number or without
certified-runs : (one : Bool) (i m : ℕ) (stored : Bool) (after : ℕ)
    → certificate_line one i m stored after ≡ certificate_word ++ (notice_text one i ++ ((44 ∷ dec_text m) ++ ((44 ∷ kept_or_stored stored) ++ ((44 ∷ dec_text after) ++ (10 ∷ [])))))
unfolding certificate_line notice_text line_text parted
certified-runs true i m stored after = ap (λ (t : List ℕ). certificate_word ++ 44 ∷ t) (paid-runs m stored after)
certified-runs false i m stored after =
    ap (λ (t : List ℕ). certificate_word ++ 44 ∷ t)
    (append_assoc (dec_text i) (44 ∷ (dec_text m ++ 44 ∷ (kept_or_stored stored ++ 44 ∷ dec_text after))) (10 ∷ []) ∙ ap (λ (t : List ℕ). dec_text i ++ 44 ∷ t) (paid-runs m stored after))

-- ---- each line, as its parts wrote it
module _ {out₀ out₁ out₂ out₃ : List ℕ} {at a b c : ℕ} where
  pub wished-wrote : (v : View) → Wrote out₀ at wished_word a out₁ → Wrote out₁ a (44 ∷ view_text v) b out₂ → Wrote out₂ b (10 ∷ []) c out₃ → Wrote out₀ at (wished_line v) c out₃
  wished-wrote v x y z = wrote_as (sym (wished-runs v)) (both x (both y z))

pub views-wrote : {out₀ out₁ out₂ : List ℕ} {at a b : ℕ} (name ws : List ℕ) (n : ℕ)
    → Wrote out₀ at name a out₁ → Wrote out₁ a ((44 ∷ dec_text n) ++ (tail_text (views_of ws n) ++ (10 ∷ []))) b out₂ → Wrote out₀ at (views_line name (views_of ws n)) b out₂
views-wrote name ws n x y = wrote_as (sym (held-runs name ws n)) (both x y)

-- ---- how long the lines are
pub count_most : (n : ℕ) → n ≤ 16 → length (dec_text n) ≤ 2
count_most n h = long-below 1 n (omega arith)

pub wished-size : (v : View) → length (wished_line v) ≡ 16
wished-size v = ap length (wished-runs v) ∙ omega (arith, length-append (view_text v) (10 ∷ []), view-long v)

pub views-most : (name ws : List ℕ) (n : ℕ) → n ≤ 16 → length (views_line name (views_of ws n)) ≤ length name + 148
views-most name ws n h =
    omega (
      arith,
      ap length (held-runs name ws n),
      length-append name ((44 ∷ dec_text n) ++ (tail_text (views_of ws n) ++ (10 ∷ []))),
      length-append (dec_text n) (tail_text (views_of ws n) ++ (10 ∷ [])),
      length-append (tail_text (views_of ws n)) (10 ∷ []),
      words_long ws n,
      count_most n h,
    )

pub candidates-most : (many : Bool) (ws : List ℕ) (n : ℕ) → (many ≡ false → n ≤ 16) → length (candidates_line many (views_of ws n)) ≤ 158
unfolding candidates_line line_text parted
candidates-most true ws n h = omega arith
candidates-most false ws n h = views-most candidates_word ws n (h refl)

none-size : length uncertified_line ≡ 17
unfolding uncertified_line line_text parted
none-size = refl

pub notice-most : (i : ℕ) → i < 64 → length (dec_text i) ≤ 2
notice-most i h = long-below 1 i (omega arith)

notice-size : (one : Bool) (i : ℕ) → i < 64 → length (notice_text one i) ≤ 3
unfolding notice_text
notice-size true i h = omega arith
notice-size false i h = omega (arith, notice-most i h)

standing-size : (stored : Bool) → length (44 ∷ kept_or_stored stored) ≤ 7
standing-size true = omega arith
standing-size false = omega arith

pub after-most : (n : ℕ) → n ≤ 512 → length (dec_text n) ≤ 3
after-most n h = long-below 2 n (omega arith)

certified-most : (one : Bool) (i m : ℕ) (stored : Bool) (after : ℕ) → i < 64 → m < 18446744073709551616 → after ≤ 512 → length (certificate_line one i m stored after) ≤ 47
certified-most one i m stored after l h few =
    omega (
      arith,
      ap length (certified-runs one i m stored after),
      length-append (notice_text one i) ((44 ∷ dec_text m) ++ ((44 ∷ kept_or_stored stored) ++ ((44 ∷ dec_text after) ++ (10 ∷ [])))),
      length-append (dec_text m) ((44 ∷ kept_or_stored stored) ++ ((44 ∷ dec_text after) ++ (10 ∷ []))),
      length-append (kept_or_stored stored) ((44 ∷ dec_text after) ++ (10 ∷ [])),
      length-append (dec_text after) (10 ∷ []),
      notice-size one i l,
      most-long m h,
      standing-size stored,
      after-most after few,
    )

-- ---- a certificate's line, as its parts wrote it

pub notice-one : (out : List ℕ) (at i : ℕ) (one : Bool) → one ≡ true → Wrote out at (notice_text one i) at out
unfolding notice_text
notice-one out at i one e = rw e record { next = omega arith; is = refl }

pub notice-number : {out after : List ℕ} {at n : ℕ} (i : ℕ) (one : Bool) → one ≡ false → Wrote out at (44 ∷ dec_text i) n after → Wrote out at (notice_text one i) n after
unfolding notice_text
notice-number i one e w = rw e w

pub notice-end : {out after : List ℕ} {at n : ℕ} (one : Bool) (i : ℕ) → i < 64 → Wrote out at (notice_text one i) n after → n ≤ at + 3
notice-end one i l w = omega (arith, w.next, notice-size one i l)

pub number-end : {out after : List ℕ} {at n : ℕ} (m : ℕ) → m < 18446744073709551616 → Wrote out at (44 ∷ dec_text m) n after → n ≤ at + 21
number-end m h w = omega (arith, w.next, most-long m h)

pub standing-end : {out after : List ℕ} {at n : ℕ} (stored : Bool) → Wrote out at (44 ∷ kept_or_stored stored) n after → n ≤ at + 7
standing-end stored w = omega (arith, w.next, standing-size stored)

pub after-end : {out after : List ℕ} {at n : ℕ} (m : ℕ) → m ≤ 512 → Wrote out at (44 ∷ dec_text m) n after → n ≤ at + 4
after-end m h w = omega (arith, w.next, after-most m h)

pub certified-wrote : {out₀ out₁ out₂ out₃ out₄ out₅ out₆ : List ℕ} {at a b c d e f : ℕ} (one : Bool) (i m : ℕ) (stored : Bool) (after : ℕ) → i < 64 → m < 18446744073709551616 → after ≤ 512
    → Wrote out₀ at certificate_word a out₁ → Wrote out₁ a (notice_text one i) b out₂ → Wrote out₂ b (44 ∷ dec_text m) c out₃ → Wrote out₃ c (44 ∷ kept_or_stored stored) d out₄
    → Wrote out₄ d (44 ∷ dec_text after) e out₅ → Wrote out₅ e (10 ∷ []) f out₆
    → Wrote out₀ at (certificate_line one i m stored after) f out₆ × (f ≤ at + 47)
certified-wrote {out₀} {out₆ = out₆} {at} {f = f} one i m stored after l h few x y z w u v = (whole, omega (arith, whole.next, certified-most one i m stored after l h few))
  where
    whole : Wrote out₀ at (certificate_line one i m stored after) f out₆
    whole = wrote_as (sym (certified-runs one i m stored after)) (both x (both y (both z (both w (both u v)))))

-- ---- one notice after the other

module _ (one : Bool) (certified : ℕ) (P : List ℕ) (stored : ℕ) (after : ℕ → ℕ → ℕ) where
  pub lines-first : (out : List ℕ) (from : ℕ) → Wrote out from (lines_to one certified P stored after 0) from out
  unfolding lines_to lines_below
  lines-first out from = record { next = omega arith; is = refl }

  lines_more : (j : ℕ) → lines_to one certified P stored after (j + 1) ≡ lines_to one certified P stored after j ++ line_for one (λ i. when (bit certified i) (get_or P i 0)) (λ i m. bit stored i) after j (when (bit certified j) (get_or P j 0))
  unfolding lines_to lines_below
  lines_more j = rw add-one

  module _ {out₀ out₁ : List ℕ} {from at : ℕ} (j : ℕ) (w : Wrote out₀ from (lines_to one certified P stored after j) at out₁) (r : Bool) (asked : r ≡ bit certified j) where
    pub lines-skip : r ≡ false → Wrote out₀ from (lines_to one certified P stored after (j + 1)) at out₁
    unfolding line_for
    lines-skip f =
        wrote_as (sym (lines_more j ∙ ap (λ b. lines_to one certified P stored after j ++ line_for one (λ i. when (bit certified i) (get_or P i 0)) (λ i m. bit stored i) after j (when b (get_or P j 0))) (sym asked ∙ f) ∙ append-nil (lines_to one certified P stored after j))) w

    pub lines_next : {out₂ : List ℕ} {n : ℕ} (m : ℕ) (k : Bool) (a : ℕ) → r ≡ true → m ≡ get_or P j 0 → k ≡ bit stored j → a ≡ after j m → Wrote out₁ at (certificate_line one j m k a) n out₂ → Wrote out₀ from (lines_to one certified P stored after (j + 1)) n out₂
    unfolding line_for
    lines_next m k a f e g q x =
        wrote_as (sym (lines_more j ∙ ap (λ b. lines_to one certified P stored after j ++ line_for one (λ i. when (bit certified i) (get_or P i 0)) (λ i m. bit stored i) after j (when b (get_or P j 0))) (sym asked ∙ f)
        ∙ ap₂ (λ m k. lines_to one certified P stored after j ++ certificate_line one j m k (after j m)) (sym e) (sym g) ∙ ap (λ a. lines_to one certified P stored after j ++ certificate_line one j m k a) (sym q))) (both w x)

  pub lines-all : {out₀ out₁ : List ℕ} {from at : ℕ} (j n : ℕ) → j ≡ n → Wrote out₀ from (lines_to one certified P stored after j) at out₁ → Wrote out₀ from (lines_to one certified P stored after n) at out₁
  lines-all j n e w = wrote_as (ap (lines_to one certified P stored after) e) w

-- ---- or none

module _ {out₀ out₁ : List ℕ} {from at : ℕ} (n certified : ℕ) (P : List ℕ) (stored : ℕ) (after : ℕ → ℕ → ℕ) (w : Wrote out₀ from (lines_to (eqb n 1) certified P stored after n) at out₁) where
  abbrev lines : List ℕ
  lines = lines_to (eqb n 1) certified P stored after n

  some-lines : (t : List ℕ) → (length t ≡ 0 → ⊥) → or_none t ≡ t
  unfolding or_none
  some-lines [] d = absurd (d refl)
  some-lines (b ∷ t) d = refl

  no_lines : (t : List ℕ) → length t ≡ 0 → t ≡ []
  no_lines [] e = refl
  no_lines (b ∷ t) e = absurd (omega arith)

  pub lines-some : (at ≡ from → ⊥) → Wrote out₀ from (certified_text n certified P stored after) at out₁
  unfolding certified_text
  lines-some d = wrote_as (sym (some-lines lines (λ e. d (omega (arith, w.next))))) w

  pub lines_none : {out₂ : List ℕ} {r : ℕ} → at ≡ from → Wrote out₁ at uncertified_line r out₂ → Wrote out₀ from (certified_text n certified P stored after) r out₂ × (r ≤ from + 3025)
  unfolding certified_text or_none
  lines_none {out₂} {r} e x = (
    wrote_as (sym (ap or_none empty)) (both (wrote_as empty w) x),
    omega (arith, x.next, none-size),
  )
    where
      empty : lines ≡ []
      empty = no_lines lines (omega (arith, w.next))

conflict-size : length conflict_line ≡ 9
unfolding conflict_line line_text parted
conflict-size = refl

-- ---- the lines one after the other
module _ {out₀ out₁ out₂ : List ℕ} {a b : ℕ} (n : ℕ) (e : Evidence) (C G P : List ℕ) (after : ℕ → ℕ → ℕ) (w : Wrote out₀ 0 (wished_line (view_of e.wished)) a out₁) where
  pub conflict-wrote : e.conflict ≡ true → Wrote out₁ a conflict_line b out₂ → Wrote out₀ 0 (lines_of n e C G P after) b out₂ × (b ≤ 4096)
  unfolding lines_of
  conflict-wrote p x = (rw p (both w x), omega (arith, x.next, w.next, wished-size (view_of e.wished), conflict-size))

  pub lines-wrote : {out₃ out₄ : List ℕ} {c d : ℕ} → e.conflict ≡ false → Few e
      → Wrote out₁ a (candidates_line e.many (views_of C e.count)) b out₂ → Wrote out₂ b (views_line greatest_word (views_of G e.length)) c out₃
      → Wrote out₃ c (certified_text n e.certified P e.stored after) d out₄ × (d ≤ c + 3025) → Wrote out₀ 0 (lines_of n e C G P after) d out₄ × (d ≤ 4096)
  unfolding lines_of agreed_lines
  lines-wrote p f x y (z, most) = (
    rw p (both w (both x (both y z))),
    omega (
      arith,
      most,
      w.next,
      x.next,
      y.next,
      wished-size (view_of e.wished),
      candidates-most e.many C e.count (f.candidates p),
      views-most greatest_word G e.length (f.greatest p),
    ),
  )

-- ---- what the evidence is of

-- the same lines by what says the same of each notice
lines_same : (one : Bool) (c c' : ℕ → Option ℕ) (s s' : ℕ → ℕ → Bool) (a : ℕ → ℕ → ℕ) (n : ℕ) → ((i : ℕ) → i < n → c i ≡ c' i) → ((i : ℕ) → i < n → (m : ℕ) → c' i ≡ some m → s i m ≡ s' i m)
    → lines_below one c s a n ≡ lines_below one c' s' a n
unfolding lines_below line_for
lines_same one c c' s s' a zero f g = refl
lines_same one c c' s s' a (suc n) f g =
    ap₂ ◌++◌ (lines_same one c c' s s' a n (λ i l. f i (omega arith)) (λ i l. g i (omega arith))) (ap (line_for one c s a n) (f n (omega arith)) ∙ line (c' n) (g n (omega arith)))
  where
    line : (o : Option ℕ) → ((m : ℕ) → o ≡ some m → s n m ≡ s' n m) → line_for one c s a n o ≡ line_for one c' s' a n o
    line none h = refl
    line (some m) h = ap (λ k. certificate_line one n m k (a n m)) (h m refl)

module _ (R : Ring) (senders : List ℕ) (X : List Stmt) (C G P : List ℕ) (e : Evidence) (of : EvidenceOf R senders X C G P e) (n : ℕ) (count : n ≡ length senders) where
  module _ (p : e.conflict ≡ false) where
    candidates-shown : (many : Bool) → e.many ≡ many → candidates_line e.many (views_of C e.count) ≡ candidates_line (ltb 16 (length (candidates R X))) (candidates R X)
    unfolding candidates_line
    candidates-shown true q = ap (λ b. candidates_line b (views_of C e.count)) q ∙ sym (ap (λ b. candidates_line b (candidates R X)) (sym (of.many p) ∙ q))
    candidates-shown false q = ap₂ candidates_line (of.many p) (of.candidates p q)

    -- a notice with a certificate is one of the set, and its payload is that of its certificate
    stored-shown : (i : ℕ) → i < length senders → (m : ℕ) → first (certificates R senders X i) ≡ some m → bit e.stored i ≡ is_stored R X i m
    stored-shown i l m q = go (bit e.certified i) refl (of.certificate p i l ∙ q)
      where
        go : (b : Bool) → bit e.certified i ≡ b → when (bit e.certified i) (get_or P i 0) ≡ some m → bit e.stored i ≡ is_stored R X i m
        go true f h = of.stored p i l f ∙ ap (is_stored R X i) (some-injective (ap (λ b. when b (get_or P i 0)) (sym f) ∙ h))
        go false f h = absurd (none≢some (ap (λ b. when b (get_or P i 0)) (sym f) ∙ h))

    certificates-shown : certified_text n e.certified P e.stored (complete_after R X) ≡ certificates_text (length senders) (λ i. first (certificates R senders X i)) (is_stored R X) (complete_after R X)
    unfolding certified_text lines_to certificates_text
    certificates-shown =
        ap (λ n. or_none (lines_below (eqb n 1) (λ i. when (bit e.certified i) (get_or P i 0)) (λ i m. bit e.stored i) (complete_after R X) n)) count
        ∙ ap or_none (lines_same (eqb (length senders) 1) (λ i. when (bit e.certified i) (get_or P i 0)) (λ i. first (certificates R senders X i)) (λ i m. bit e.stored i) (is_stored R X) (complete_after R X) (length senders)
        (of.certificate p) stored-shown)

    agreed-shown : agreed_lines n e C G P (complete_after R X) ≡ agreed_text R senders X
    unfolding agreed_lines agreed_text
    agreed-shown = ap₂ ◌++◌ (candidates-shown e.many refl) (ap₂ ◌++◌ (ap (views_line greatest_word) (of.greatest p)) certificates-shown)

  rest-shown : (conflict : Bool) → e.conflict ≡ conflict → (if e.conflict then conflict_line else agreed_lines n e C G P (complete_after R X)) ≡ (if is_conflict R senders X then conflict_line else agreed_text R senders X)
  rest-shown true p = ap (λ b. if b then conflict_line else agreed_lines n e C G P (complete_after R X)) p ∙ sym (ap (λ b. if b then conflict_line else agreed_text R senders X) (sym of.conflict ∙ p))
  rest-shown false p = ap (λ b. if b then conflict_line else agreed_lines n e C G P (complete_after R X)) p ∙ agreed-shown p ∙ sym (ap (λ b. if b then conflict_line else agreed_text R senders X) (sym of.conflict ∙ p))

  -- THE LINES OF THE EVIDENCE ARE THE TEXT
  pub lines-shown : lines_of n e C G P (complete_after R X) ≡ screen_text R senders X
  unfolding lines_of screen_text
  lines-shown = ap₂ ◌++◌ (ap wished_line of.wished) (rest-shown e.conflict refl)

  pub shows : (out after : List ℕ) (r : ℕ) → 4096 ≤ length out → Wrote out 0 (lines_of n e C G P (complete_after R X)) r after × (r ≤ 4096) → ScreenShows R senders X out r after
  shows out after r room w =
      let v : Wrote out 0 (screen_text R senders X) r after = subst (λ t. Wrote out 0 t r after) lines-shown w.0 in
      let size : r ≡ length (screen_text R senders X) = v.next ∙ omega arith in
      record { count = λ h. size; fits = λ h. omega (arith, w.1); is = λ h. v.is; short = λ h. absurd (omega arith) }

pub few-views : (R : Ring) (senders : List ℕ) (X : List Stmt) (C G P : List ℕ) (e : Evidence) → EvidenceOf R senders X C G P e → Few e
few-views R senders X C G P e of = record {
  candidates = λ p q. omega (arith, views-count C e.count, ap length (of.candidates p q), ltb-false 16 (length (candidates R X)) (sym (of.many p) ∙ q));
  greatest = λ p. omega (arith, views-count G e.length, ap length (of.greatest p), sealed-short (greatest-holds R senders X (subst (λ b. T (not b)) (sym p ∙ of.conflict) tt)).0);
}

pub shows_nothing : (R : Ring) (senders : List ℕ) (X : List Stmt) (out : List ℕ) → length out < 4096 → ScreenShows R senders X out 0 out
shows_nothing R senders X out h = record { count = λ l. absurd (omega arith); fits = λ l. absurd (omega arith); is = λ l. absurd (omega arith); short = λ l. (refl, refl) }
