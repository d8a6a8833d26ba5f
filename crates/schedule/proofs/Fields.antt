-- The fields of a line: what reading one shows, and that it is shown where the line has it.
-- Assumes nothing.
use Prim.Native.Nat.{ℕ, ◌+◌, ◌<◌, ◌≤◌}
use native.Mathlib.Omega.{arith}
use mathlib.Core.Path.{◌≡◌, sym, ap, ◌∙◌}
use mathlib.Core.Bool.{true, false, false≢true}
use mathlib.Core.List.{List, [], ◌∷◌, ◌++◌, append-nil}
use lib.ListN.{length, drop, length-drop, drop_of_length-le}
use Rattle.std.specs.Prelude.{Option, Some, None}
use Rattle.text.specs.declared.Read.{Read}
use Rattle.text.specs.Text.{dec_text, hex_text}
use Rattle.text.specs.Scan.{found, hex_at, is_comma}
use Rattle.text.proofs.Hex.{hex-length}
use Rattle.text.proofs.Bytes.{same_found}
use Rattle.text.proofs.Laws.{after, hex-at, hex-only, comma-is, comma-next, comma-only}
use Rattle.statements.specs.Parts.{NumberAt}
use Rattle.schedule.specs.Reading.{LastAt, SetAt}

-- nothing is left
pub left-none : (T : List ℕ) (next : ℕ) → drop next T ≡ [] → length T ≤ next
left-none T next e = omega (arith, sym (length-drop next T) ∙ ap length e)

-- ---- a number that ends the line
module _ (T : List ℕ) (at most : ℕ) where
  with-end : (v : ℕ) → drop at T ≡ 44 ∷ dec_text v → drop at T ≡ 44 ∷ (dec_text v ++ [])
  with-end v e = e ∙ ap (λ (l : List ℕ). 44 ∷ l) (sym (append-nil (dec_text v)))

  pub last-refused : NumberAt T at most None → LastAt T at most None
  last-refused n = record { only = tt; back = λ v l e. n.back v [] l tt (with-end v e); low = tt }

  module _ (p : Read ℕ) (n : NumberAt T at most (Some p)) where
    pub last_more : p.next < length T → LastAt T at most None
    last_more h = record { only = tt; back = λ v l e. absurd (let g = left-none T p.next (n.back v [] l tt (with-end v e)).1 in omega arith); low = tt }

    pub last-whole : length T ≤ p.next → LastAt T at most (Some p.value)
    last-whole h = record {
      only = n.only ∙ ap (λ (l : List ℕ). 44 ∷ (dec_text p.value ++ l)) (drop_of_length-le T h) ∙ ap (λ (l : List ℕ). 44 ∷ l) (append-nil (dec_text p.value));
      back = λ v l e. (n.back v [] l tt (with-end v e)).0;
      low = n.low;
    }

-- ---- a set
module _ (T : List ℕ) (at : ℕ) where
  pub set-none : is_comma T at ≡ false → SetAt T at None
  set-none e = record { only = tt; back = λ v rest l d. absurd (false≢true (sym e ∙ comma-is T at (hex_text 4 v ++ rest) d)); low = tt }

  module _ (comma : is_comma T at ≡ true) where
    read_back : (v : ℕ) (rest : List ℕ) → v < 65536 → drop at T ≡ 44 ∷ (hex_text 4 v ++ rest) → hex_at T (at + 1) 4 ≡ found v (at + 1 + 4)
    read_back v rest l d = hex-at 4 T (at + 1) v rest l (comma-next T at (hex_text 4 v ++ rest) d)

    pub set-read : (r : Option (Read ℕ)) → r ≡ hex_at T (at + 1) 4 → SetAt T at r
    set-read None is = record { only = tt; back = λ v rest l d. absurd (let q = is ∙ read_back v rest l d in cc); low = tt }
    set-read (Some p) is = record {
      only = comma-only T at comma ∙ ap (λ (l : List ℕ). 44 ∷ l) (hex-only 4 T (at + 1) p.value p.next (sym is)).0;
      back = λ v rest l d.
          let q = same_found (is ∙ read_back v rest l d) in
          (q.0, ap (λ (k : ℕ). drop k T) (q.1 ∙ ap (λ (k : ℕ). at + 1 + k) (sym (hex-length 4 v))) ∙ after T (at + 1) (hex_text 4 v) rest (comma-next T at (hex_text 4 v ++ rest) d));
      low = (hex-only 4 T (at + 1) p.value p.next (sym is)).2;
    }
