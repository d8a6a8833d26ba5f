-- Laws of windows, over their numbers.
-- Assumes nothing.
use mathlib.Core.Path.{◌≡◌, sym, ap, ◌∙◌}
use mathlib.Core.Bool.{Bool, true, false, ◌&&◌, ◌||◌, true≢false}
use mathlib.Core.List.{List}
use Prim.Native.Nat.{ℕ, ◌≤◌, ◌<◌, min}
use native.Mathlib.Decide.{dec_lt}
use native.Mathlib.Omega.{arith}
use lib.Dec.{eqb, leb}
use lib.ListN.{length, get_or}
use borrow.Author.Tests.{le-leb, lt-leb, eq-eqb, ne_eqb}
use Rattle.protocol.specs.Lists.{any, all}
use Rattle.protocol.specs.Window.{Window, window_allowed, windows_allowed, is_inside, is_open}
use Rattle.protocol.proofs.Numbered.{list_of-length}
use Rattle.windows.specs.Windows.{window_in, windows_in}

-- ---- the windows of a setup

-- a ninth window
pub nine-windows : (l : List Window) → 8 < length l → windows_allowed l ≡ false
unfolding windows_allowed
nine-windows l h = ap (λ x. x && all window_allowed l) (lt-leb (length l) 8 h)

module _ (A : List ℕ) where
  pub windows-count : (n : ℕ) → length (windows_in A n) ≡ n
  unfolding windows_in
  windows-count n = list_of-length n (λ i. window_in (get_or A i 0))

  pub many-windows : (n : ℕ) → 8 < n → windows_allowed (windows_in A n) ≡ false
  many-windows n h = nine-windows (windows_in A n) (omega (arith, windows-count n))

  pub few-windows : (n : ℕ) (b : Bool) → b ≡ windows_allowed (windows_in A n) → b ≡ true → n ≤ 8
  few-windows n b e f = elim (dec_lt 8 n) [ yes h ↦ absurd (true≢false (sym f ∙ e ∙ many-windows n h)) | no h ↦ omega arith ]

  pub few : (n : ℕ) → n ≤ 8 → windows_allowed (windows_in A n) ≡ all window_allowed (windows_in A n)
  unfolding windows_allowed
  few n h = ap (λ k. leb k 8 && all window_allowed (windows_in A n)) (windows-count n) ∙ ap (λ x. x && all window_allowed (windows_in A n)) (le-leb n 8 h)

  module _ (minute : ℕ) where
    open_by : (n : ℕ) → is_open (windows_in A n) minute ≡ (eqb n 0 || any (is_inside minute) (windows_in A n))
    unfolding is_open
    open_by n = ap (λ k. eqb k 0 || any (is_inside minute) (windows_in A n)) (windows-count n)

    pub always-open : (n : ℕ) → n ≡ 0 → is_open (windows_in A (min n 8)) minute ≡ true
    always-open n e = open_by (min n 8) ∙ ap (λ x. x || any (is_inside minute) (windows_in A (min n 8))) (eq-eqb (min n 8) 0 (omega arith))

    pub open-where : (n : ℕ) → 0 < n → is_open (windows_in A n) minute ≡ any (is_inside minute) (windows_in A n)
    open-where n h = open_by n ∙ ap (λ x. x || any (is_inside minute) (windows_in A n)) (ne_eqb n 0 (λ q. omega arith))
