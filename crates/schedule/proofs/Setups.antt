-- A setup: the whole line.
-- Assumes nothing.
use Prim.Native.Nat.{ℕ, ◌<◌, ◌≤◌}
use native.Mathlib.Omega.{arith}
use mathlib.Core.Path.{◌≡◌, refl, sym, ap, ◌∙◌}
use mathlib.Core.Bool.{true, false, false≢true}
use mathlib.Core.List.{List, [], ◌∷◌, ◌++◌, map, append_assoc, append-nil}
use lib.Dec.{eqb}
use lib.ListN.{length, drop, drop_of_length-le}
use Rattle.std.specs.List.{starts_with}
use Rattle.std.specs.Prelude.{Some, None}
use Rattle.text.specs.declared.Read.{Read}
use Rattle.protocol.specs.Window.{Window}
use Rattle.protocol.specs.Call as call
use Rattle.text.specs.Text.{dec_text, hex_text}
use Rattle.text.specs.Scan.{Stops}
use Rattle.text.proofs.Laws.{dec-same, hex-same}
use Rattle.statements.specs.Text.{parted}
use Rattle.statements.specs.Meaning.{Each}
use Rattle.statements.specs.Parts.{NumberAt, each, comma_number}
use Rattle.statements.proofs.Sequence.{each-stops}
use Rattle.statements.proofs.GroupLaws.{comma-number}
use Rattle.schedule.specs.declared.line.Line.TheVariants as is
use Rattle.schedule.specs.declared.line.ReadSetup.{ReadSetup}
use Rattle.schedule.specs.declared.verb.Verb.TheVariants.{Setup}
use Rattle.schedule.specs.Line.{setup, setup_word, ended, Short, window_numbers, setup_parts, Written}
use Rattle.schedule.specs.Reading.{verb_of, SetAt, ReadsSetup, SetupOf, window_text, the_senders, the_windows, ManyAt, BeginsWith, Understood}
use Rattle.schedule.proofs.Words.{starts-only, begins, ended_same, reads_none}
use Rattle.schedule.proofs.Fields.{left-none}
use Rattle.schedule.proofs.Commands.{follows, put-together}
use Rattle.schedule.proofs.Windows.{windows-text, numbers-short, windows-short, numbers-long, windows-same}

-- ---- the line

-- what follows the faulty set, and the count of senders
abbrev windows_tail : List Window → List ℕ
windows_tail l = 44 ∷ (dec_text (length l) ++ each comma_number (window_numbers l))

abbrev rest : call.Setup → ℕ → List ℕ
rest s f = each comma_number s.senders ++ 44 ∷ (hex_text 4 f ++ windows_tail s.windows)

abbrev setup_text : call.Setup → ℕ → List ℕ
setup_text s f = 44 ∷ (hex_text 4 s.members ++ 44 ∷ (dec_text (length s.senders) ++ rest s f))

numbers-parts : (L a : List ℕ) → parted (a ∷ map dec_text L) ≡ a ++ each comma_number L
unfolding parted each
numbers-parts [] a = sym (append-nil a)
numbers-parts (k ∷ L) a = ap (λ (l : List ℕ). a ++ 44 ∷ l) (numbers-parts L (dec_text k))

numbers-then : (L a z : List ℕ) (M : List (List ℕ)) → parted (a ∷ (map dec_text L ++ z ∷ M)) ≡ a ++ (each comma_number L ++ 44 ∷ parted (z ∷ M))
unfolding parted each
numbers-then [] a z M = refl
numbers-then (k ∷ L) a z M = ap (λ (l : List ℕ). a ++ 44 ∷ l) (numbers-then L (dec_text k) z M ∙ sym (append_assoc (dec_text k) (each comma_number L) (44 ∷ parted (z ∷ M))))

setup-parts : (s : call.Setup) (f : ℕ) → parted (setup_parts s f) ≡ setup_word ++ setup_text s f
unfolding parted
setup-parts s f =
    let n : List ℕ = dec_text (length s.senders) in
    let w : List ℕ = dec_text (length s.windows) in
    ap (λ (l : List ℕ). setup_word ++ 44 ∷ (hex_text 4 s.members ++ 44 ∷ l)) (numbers-then s.senders n (hex_text 4 f) (w ∷ map dec_text (window_numbers s.windows))
    ∙ ap (λ (l : List ℕ). n ++ (each comma_number s.senders ++ 44 ∷ (hex_text 4 f ++ 44 ∷ l))) (numbers-parts (window_numbers s.windows) w))

-- no digit follows either count
numbers-stop : (L : List ℕ) → Stops (each comma_number L)
unfolding each
numbers-stop [] = tt
numbers-stop (k ∷ L) = refl

rest-stops : (s : call.Setup) (f : ℕ) → Stops (rest s f)
rest-stops s f = each-stops comma_number comma-number s.senders (44 ∷ (hex_text 4 f ++ windows_tail s.windows)) refl

-- the text T after its word, if it is the setup s
text-follows : (T : List ℕ) (i : ℕ) (s : call.Setup) (f : ℕ) → Written i (setup s f) (ended T) → drop 5 T ≡ setup_text s f
text-follows T i s f w = follows T setup_word (setup_text s f) (w.6 ∙ ap ended (setup-parts s f))

-- The text T is written as no setup.
abbrev NoSetup : List ℕ → Type 0
NoSetup T = (i : ℕ) (a : call.Setup) (z : ℕ) → ¬ Written i (setup a z) (ended T)

pub no-setup : (T S W : List ℕ) → NoSetup T → SetupOf T S W None
no-setup T S W n = record { told = tt; untold = n }

-- Each field in turn: refused, the line is no setup; read, it is what a setup has there, and the next follows.
module _ (T : List ℕ) where
  pub setup-members : SetAt T 5 None → NoSetup T
  setup-members cm i a z w = cm.back a.members (44 ∷ (dec_text (length a.senders) ++ rest a z)) (omega (arith, w.0)) (text-follows T i a z w)

  module _ (m : Read ℕ) (cm : SetAt T 5 (Some m)) where
    members : (i : ℕ) (a : call.Setup) (z : ℕ) → Written i (setup a z) (ended T) → (m.value ≡ a.members) × (drop m.next T ≡ 44 ∷ (dec_text (length a.senders) ++ rest a z))
    members i a z w = cm.back a.members (44 ∷ (dec_text (length a.senders) ++ rest a z)) (omega (arith, w.0)) (text-follows T i a z w)

    pub setup-count : NumberAt T m.next 255 None → NoSetup T
    setup-count cc i a z w = cc.back (length a.senders) (rest a z) w.1 (rest-stops a z) (members i a z w).1

    module _ (c : Read ℕ) (cc : NumberAt T m.next 255 (Some c)) where
      count : (i : ℕ) (a : call.Setup) (z : ℕ) → Written i (setup a z) (ended T) → (c.value ≡ length a.senders) × (drop c.next T ≡ rest a z)
      count i a z w = cc.back (length a.senders) (rest a z) w.1 (rest-stops a z) (members i a z w).1

      pub setup-senders : (S : List ℕ) → ManyAt the_senders T c.next c.value S None → NoSetup T
      setup-senders S cs i a z w = let g = count i a z w in cs.from.back a.senders (44 ∷ (hex_text 4 z ++ windows_tail a.windows)) (sym g.0, w.2) refl g.1

      module _ (S : List ℕ) (s : ℕ) (cs : ManyAt the_senders T c.next c.value S (Some s)) where
        senders : (i : ℕ) (a : call.Setup) (z : ℕ) → Written i (setup a z) (ended T) → (cs.values ≡ a.senders) × (drop s T ≡ 44 ∷ (hex_text 4 z ++ windows_tail a.windows))
        senders i a z w = let g = count i a z w in cs.from.back a.senders (44 ∷ (hex_text 4 z ++ windows_tail a.windows)) (sym g.0, w.2) refl g.1

        pub setup-faulty : SetAt T s None → NoSetup T
        setup-faulty cf i a z w = cf.back z (windows_tail a.windows) (omega (arith, w.3)) (senders i a z w).1

        module _ (f : Read ℕ) (cf : SetAt T s (Some f)) where
          faulty : (i : ℕ) (a : call.Setup) (z : ℕ) → Written i (setup a z) (ended T) → (f.value ≡ z) × (drop f.next T ≡ windows_tail a.windows)
          faulty i a z w = cf.back z (windows_tail a.windows) (omega (arith, w.3)) (senders i a z w).1

          pub setup-many : NumberAt T f.next 65535 None → NoSetup T
          setup-many cn i a z w = cn.back (length a.windows) (each comma_number (window_numbers a.windows)) w.4 (numbers-stop (window_numbers a.windows)) (faulty i a z w).1

          module _ (n : Read ℕ) (cn : NumberAt T f.next 65535 (Some n)) where
            many : (i : ℕ) (a : call.Setup) (z : ℕ) → Written i (setup a z) (ended T) → (n.value ≡ length a.windows) × (drop n.next T ≡ each comma_number (window_numbers a.windows))
            many i a z w = cn.back (length a.windows) (each comma_number (window_numbers a.windows)) w.4 (numbers-stop (window_numbers a.windows)) (faulty i a z w).1

            -- what follows the count of windows, as windows and nothing after them
            windows-there : (i : ℕ) (a : call.Setup) (z : ℕ) → Written i (setup a z) (ended T) → drop n.next T ≡ each window_text a.windows ++ []
            windows-there i a z w = (many i a z w).1 ∙ sym (windows-text a.windows) ∙ sym (append-nil (each window_text a.windows))

            pub setup-windows : (W : List ℕ) → ManyAt the_windows T n.next n.value W None → NoSetup T
            setup-windows W cv i a z w = cv.from.back a.windows [] (sym (many i a z w).0, windows-short a.windows w.5) tt (windows-there i a z w)

            module _ (W : List ℕ) (v : ℕ) (cv : ManyAt the_windows T n.next n.value W (Some v)) where
              pub setup-more : v < length T → NoSetup T
              setup-more h i a z w =
                  let g = cv.from.back a.windows [] (sym (many i a z w).0, windows-short a.windows w.5) tt (windows-there i a z w) in omega (arith, left-none T v g.1)

              told : BeginsWith Setup T → length T ≤ v → ReadsSetup T S W (record { members = m.value; count = c.value; faulty = f.value; windows = n.value })
              told by h =
                  let L : List ℕ = cs.values in
                  let ws : List Window = cv.values in
                  let z : ℕ = f.value in
                  let numbers : List ℕ = each comma_number (window_numbers ws) in
                  let a : call.Setup = record { members = m.value; senders = L; windows = ws } in
                  let d6 : drop n.next T ≡ numbers = cv.from.only ∙ ap (λ (l : List ℕ). each window_text ws ++ l) (drop_of_length-le T h) ∙ append-nil (each window_text ws) ∙ windows-text ws in
                  let d5 : drop f.next T ≡ windows_tail ws = cn.only ∙ ap (λ (l : List ℕ). 44 ∷ (dec_text n.value ++ l)) d6 ∙ ap (λ (x : ℕ). 44 ∷ (dec_text x ++ numbers)) (sym cv.many.0) in
                  let d4 : drop s T ≡ 44 ∷ (hex_text 4 z ++ windows_tail ws) = cf.only ∙ ap (λ (l : List ℕ). 44 ∷ (hex_text 4 z ++ l)) d5 in
                  let d3 : drop c.next T ≡ rest a z = cs.from.only ∙ ap (λ (l : List ℕ). each comma_number L ++ l) d4 in
                  let d2 : drop m.next T ≡ 44 ∷ (dec_text (length L) ++ rest a z) = cc.only ∙ ap (λ (l : List ℕ). 44 ∷ (dec_text c.value ++ l)) d3 ∙ ap (λ (x : ℕ). 44 ∷ (dec_text x ++ rest a z)) (sym cs.many.0) in
                  let d1 : drop 5 T ≡ setup_text a z = cm.only ∙ ap (λ (l : List ℕ). 44 ∷ (hex_text 4 m.value ++ l)) d2 in
                  let whole = put-together T setup_word (setup_text a z) (begins T Setup by.word) d1 ∙ ap ended (sym (setup-parts a z)) in record {
                    senders = L;
                    windows = ws;
                    count = cs.many.0;
                    stand = cs.stand;
                    window-count = cv.many.0;
                    windows-stand = cv.stand;
                    written = λ i. (omega (arith, cm.low), omega (arith, cs.many.0, cc.low), cs.many.1, omega (arith, cf.low), omega (arith, cv.many.0, cn.low), numbers-short ws cv.many.1, whole);
                  }

              pub setup-whole : BeginsWith Setup T → length T ≤ v → SetupOf T S W (Some (record { members = m.value; count = c.value; faulty = f.value; windows = n.value }))
              setup-whole by h = record { told = told by h; untold = tt }

-- ---- one text, one setup

numbers-same : (most : ℕ) → most < 18446744073709551616 → (L L' z z' : List ℕ) → length L ≡ length L' → Each (λ k. k ≤ most) L → Each (λ k. k ≤ most) L' → Stops z → Stops z' → each comma_number L ++ z ≡ each comma_number L' ++ z'
    → (L ≡ L') × (z ≡ z')
unfolding each
numbers-same most h [] [] z z' n b b' s s' e = (refl, e)
numbers-same most h [] (k' ∷ L') z z' n b b' s s' e = absurd (omega arith)
numbers-same most h (k ∷ L) [] z z' n b b' s s' e = absurd (omega arith)
numbers-same most h (k ∷ L) (k' ∷ L') z z' n b b' s s' e =
    let d = sym (append_assoc (dec_text k) (each comma_number L) z) ∙ ap (drop 1) e ∙ append_assoc (dec_text k') (each comma_number L') z' in
    let (ek, d1) = dec-same k k' (each comma_number L ++ z) (each comma_number L' ++ z') (omega (arith, b.0)) (omega (arith, b'.0)) (each-stops comma_number comma-number L z s) (each-stops comma_number comma-number L' z' s') d in
    let (e_l, d2) = numbers-same most h L L' z z' (omega arith) b.1 b'.1 s s' d1 in
    (ap (λ (x : ℕ). x ∷ L) ek ∙ ap (λ (l : List ℕ). k' ∷ l) e_l, d2)

windows-one : (ws ws' : List Window) → Short (length ws) → Short (length ws') → Each Short (window_numbers ws) → Each Short (window_numbers ws') → windows_tail ws ≡ windows_tail ws' → ws ≡ ws'
windows-one ws ws' h h' b b' d =
    let N : List ℕ = window_numbers ws in
    let N' : List ℕ = window_numbers ws' in
    let (en, d1) = dec-same (length ws) (length ws') (each comma_number N) (each comma_number N') (omega arith) (omega arith) (numbers-stop N) (numbers-stop N') (ap (drop 1) d) in
    windows-same ws ws' (numbers-same 65535 (omega arith) N N' [] [] (numbers-long ws ws' en) b b' tt tt (ap (λ (l : List ℕ). l ++ []) d1)).0

pub setup-same : (T : List ℕ) (n : ℕ) (s : call.Setup) (f : ℕ) (s' : call.Setup) (f' : ℕ) → Written n (setup s f) (ended T) → Written n (setup s' f') (ended T) → setup s f ≡ setup s' f'
setup-same T n s f s' f' w w' =
    let d0 = sym (text-follows T n s f w) ∙ text-follows T n s' f' w' in
    let (em, d1) = hex-same 4 s.members s'.members (44 ∷ (dec_text (length s.senders) ++ rest s f)) (44 ∷ (dec_text (length s'.senders) ++ rest s' f')) w.0 w'.0 (ap (drop 1) d0) in
    let (ec, d2) = dec-same (length s.senders) (length s'.senders) (rest s f) (rest s' f') (omega (arith, w.1)) (omega (arith, w'.1)) (rest-stops s f) (rest-stops s' f') (ap (drop 1) d1) in
    let (e_l, d3) = numbers-same 255 (omega arith) s.senders s'.senders (44 ∷ (hex_text 4 f ++ windows_tail s.windows)) (44 ∷ (hex_text 4 f' ++ windows_tail s'.windows)) ec w.2 w'.2 refl refl d2 in
    let (ef, d4) = hex-same 4 f f' (windows_tail s.windows) (windows_tail s'.windows) w.3 w'.3 (ap (drop 1) d3) in
    let e_v = windows-one s.windows s'.windows w.4 w'.4 w.5 w'.5 d4 in
    λ i. setup (record { members = em i; senders = e_l i; windows = e_v i }) (ef i)

-- a line with another word
pub not-setup : (T S W : List ℕ) → starts_with eqb T setup_word ≡ false → SetupOf T S W None
not-setup T S W e = no-setup T S W (λ i a z w. false≢true (sym e ∙ ap (λ (t : List ℕ). starts_with eqb t setup_word) (ended_same T (setup_word ++ setup_text a z) (w.6 ∙ ap ended (setup-parts a z)))))

-- a line with the word
pub setup-begins : (T : List ℕ) → starts_with eqb T setup_word ≡ true → BeginsWith Setup T
unfolding verb_of
setup-begins T e = record { word = sym (ap verb_of (starts-only T setup_word e)) }

-- ---- that it reads
module _ (T : List ℕ) (by : BeginsWith Setup T) (S W : List ℕ) where
  pub reads-setup : (r : ReadSetup) → SetupOf T S W (Some r) → Understood T (Some is.Setup)
  reads-setup r of = let g = of.told in record { reads = (record { members = r.members; senders = g.senders; windows = g.windows }, r.faulty, g.written) }

  pub reads-no-setup : SetupOf T S W None → Understood T None
  reads-no-setup of = record { reads = reads_none T Setup by.word (λ a z i w. of.untold i a z w) }
