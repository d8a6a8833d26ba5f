-- Windows: one is read as three numbers, its word stands for it, and what stands in the memory.
--     windows-are, windows-allowed     the windows of a setup by the memory
-- Assumes nothing.
use Prim.Native.Nat.{ℕ, ◌<◌, ◌≤◌}
use native.Mathlib.Decide.{dec_lt}
use native.Mathlib.Omega.{arith}
use mathlib.Core.Path.{◌≡◌, refl, sym, ap, subst, ◌∙◌}
use mathlib.Core.List.{List, [], ◌∷◌, ◌++◌, append_assoc}
use lib.ListN.{length, get_or}
use lib.Seq.{ext_get_or}
use Rattle.std.specs.Prelude.{Option, Some, None, IfSome}
use Rattle.text.specs.declared.Read.{Read}
use Rattle.text.specs.Scan.{found, Stops}
use Rattle.protocol.specs.Window.{Window, windows_allowed}
use Rattle.protocol.proofs.Numbered.{list_of-at}
use Rattle.text.specs.Text.{dec_text}
use Rattle.windows.specs.Windows.{window_of, window_in, windows_in}
use Rattle.windows.proofs.Windows.{nine-windows, windows-count}
use Rattle.statements.specs.Meaning.{Each}
use Rattle.statements.specs.Parts.{NumberAt, each, comma_number, meant, From}
use Rattle.statements.proofs.Sequence.{Comma, from-number, two_text, TwoFit, from-none, from-two, from-as}
use Rattle.schedule.specs.declared.line.ReadSetup.{ReadSetup}
use Rattle.schedule.specs.Line.{Short, window_numbers}
use Rattle.schedule.specs.Reading.{no_window, WindowsIn, ReadsSetup, window_text, ShortWindow, the_windows, OneAt}

-- ---- one window

pub comma-window : Comma window_text
comma-window w = (dec_text w.weekday ++ (comma_number w.first ++ comma_number w.end), refl)

abbrev Short₂ : ℕ → ℕ → Type 0
Short₂ a n = Short n

abbrev two : ℕ × ℕ → List ℕ
two = two_text comma_number Short comma_number Short₂

abbrev Two : ℕ × ℕ → Type 0
Two = TwoFit comma_number Short comma_number Short₂

abbrev Two₂ : ℕ → ℕ × ℕ → Type 0
Two₂ a = Two

abbrev three : ℕ × (ℕ × ℕ) → List ℕ
three = two_text comma_number Short two Two₂

abbrev Three : ℕ × (ℕ × ℕ) → Type 0
Three = TwoFit comma_number Short two Two₂

abbrev window : ℕ × (ℕ × ℕ) → Window
window x = window_of x.0 x.1.0 x.1.1

-- a comma stands before each number, and so no digit
one-stops : (n : ℕ) (rest : List ℕ) → Stops rest → Stops (comma_number n ++ rest)
one-stops n rest s = refl

two-stops : (x : ℕ × ℕ) (rest : List ℕ) → Stops rest → Stops (two x ++ rest)
two-stops x rest s = refl

module _ (T : List ℕ) (at : ℕ) where
  -- three numbers are a window's
  as_window : (r : Option (Read (ℕ × (ℕ × ℕ)))) → IfSome r (λ p. window_text (window p.value) ≡ three p.value) → From three Three T at r → From window_text ShortWindow T at (meant window r)
  as_window r same f = from-as three Three window_text ShortWindow window (λ w. (w.weekday, (w.first, w.end))) (λ w f. refl) (λ w f. (f.0, (f.1, f.2))) (λ v w f e. ap window e) T at r same f

  pub window-first : NumberAt T at 65535 None → OneAt the_windows T at None
  window-first na = record { fits = tt; from = as_window None tt (from-none comma_number Short two Two₂ T at two-stops (from-number T at 65535 None na)) }

  module _ (a : Read ℕ) (na : NumberAt T at 65535 (Some a)) where
    then_two : (r : Option (Read (ℕ × ℕ))) → From two Two T a.next r → From three Three T at (meant (λ y. (a.value, y)) r)
    then_two r f = from-two comma_number Short two Two₂ T at a.value a.next (from-number T at 65535 (Some a) na) two-stops r f

    pub window-second : NumberAt T a.next 65535 None → OneAt the_windows T at None
    window-second nb = record { fits = tt; from = as_window None tt (then_two None (from-none comma_number Short comma_number Short₂ T a.next one-stops (from-number T a.next 65535 None nb))) }

    module _ (b : Read ℕ) (nb : NumberAt T a.next 65535 (Some b)) where
      then_one : (r : Option (Read ℕ)) → NumberAt T b.next 65535 r → From two Two T a.next (meant (λ y. (b.value, y)) r)
      then_one r nc = from-two comma_number Short comma_number Short₂ T a.next b.value b.next (from-number T a.next 65535 (Some b) nb) one-stops r (from-number T b.next 65535 r nc)

      pub window-third : NumberAt T b.next 65535 None → OneAt the_windows T at None
      window-third nc = record { fits = tt; from = as_window None tt (then_two None (then_one None nc)) }

      module _ (c : Read ℕ) (nc : NumberAt T b.next 65535 (Some c)) where
        abbrev v : Window
        v = window_of a.value b.value c.value

        from-window : From window_text ShortWindow T at (found v c.next)
        from-window = as_window (found (a.value, (b.value, c.value)) c.next) refl (then_two (found (b.value, c.value) c.next) (then_one (Some c) nc))

        pub window-one : (word : ℕ) → window_in word ≡ v → OneAt the_windows T at (found word c.next)
        window-one word e = record { fits = subst ShortWindow (sym e) (na.low, nb.low, nc.low); from = subst (λ (w : Window). From window_text ShortWindow T at (found w c.next)) (sym e) from-window }

-- ---- the numbers of windows, as they are written

pub windows-text : (l : List Window) → each window_text l ≡ each comma_number (window_numbers l)
unfolding each window_numbers
windows-text [] = refl
windows-text (w ∷ l) =
    ap (λ (t : List ℕ). window_text w ++ t) (windows-text l) ∙ append_assoc (comma_number w.weekday) (comma_number w.first ++ comma_number w.end) (each comma_number (window_numbers l))
    ∙ ap (λ (t : List ℕ). comma_number w.weekday ++ t) (append_assoc (comma_number w.first) (comma_number w.end) (each comma_number (window_numbers l)))

pub numbers-short : (l : List Window) → Each ShortWindow l → Each Short (window_numbers l)
unfolding window_numbers
numbers-short [] f = tt
numbers-short (w ∷ l) f = (f.0.0, (f.0.1, (f.0.2, numbers-short l f.1)))

pub windows-short : (l : List Window) → Each Short (window_numbers l) → Each ShortWindow l
unfolding window_numbers
windows-short [] f = tt
windows-short (w ∷ l) f = ((f.0, f.1.0, f.1.1.0), windows-short l f.1.1.1)

pub numbers-long : (l l' : List Window) → length l ≡ length l' → length (window_numbers l) ≡ length (window_numbers l')
unfolding window_numbers
numbers-long [] [] e = refl
numbers-long [] (w' ∷ l') e = absurd (omega arith)
numbers-long (w ∷ l) [] e = absurd (omega arith)
numbers-long (w ∷ l) (w' ∷ l') e = omega (arith, numbers-long l l' (omega arith))

-- the windows of their numbers
windows_of : List ℕ → List Window
windows_of (a ∷ b ∷ c ∷ l) = window_of a b c ∷ windows_of l
windows_of (a ∷ b ∷ []) = []
windows_of (a ∷ []) = []
windows_of [] = []

windows-back : (l : List Window) → windows_of (window_numbers l) ≡ l
unfolding window_numbers windows_of
windows-back [] = refl
windows-back (w ∷ l) = ap (λ (k : List Window). w ∷ k) (windows-back l)

pub windows-same : (l l' : List Window) → window_numbers l ≡ window_numbers l' → l ≡ l'
windows-same l l' e = sym (windows-back l) ∙ ap windows_of e ∙ windows-back l'

-- ---- the windows in memory

module _ (W : List ℕ) where
  first-are : (l : List Window) → WindowsIn W l → length l ≤ 8 → windows_in W (length l) ≡ l
  unfolding windows_in
  first-are l i h = ext_get_or no_window (windows_in W (length l)) l (windows-count W (length l)) (λ k m.
      let b : k < length l = omega (arith, windows-count W (length l)) in list_of-at (length l) (λ k. window_in (get_or W k 0)) k no_window b ∙ i.each k b (omega arith))

module _ (T S W : List ℕ) (r : ReadSetup) (said : ReadsSetup T S W r) where
  -- THE WINDOWS THAT A SETUP NAMES are those in memory, if it names at most 8
  pub windows-are : r.windows ≤ 8 → windows_in W r.windows ≡ said.windows
  windows-are h = ap (windows_in W) (sym said.window-count) ∙ first-are W said.windows said.windows-stand (omega (arith, said.window-count))

  -- and whether it may have them is told by the memory and their count
  pub windows-allowed : windows_allowed said.windows ≡ windows_allowed (windows_in W r.windows)
  windows-allowed = elim (dec_lt 8 r.windows) [
    | yes m ↦ nine-windows said.windows (omega (arith, said.window-count)) ∙ sym (nine-windows (windows_in W r.windows) (omega (arith, windows-count W r.windows)))
    | no m ↦ ap windows_allowed (sym (windows-are (omega arith)))
  ]
