-- A line's end, as the library's `position` tells it.
-- Assumes nothing.
use Prim.Native.Nat.{ℕ, ◌≤◌}
use native.Mathlib.Omega.{arith}
use mathlib.Core.Path.{◌≡◌, refl, sym, ap, ◌∙◌}
use mathlib.Core.Bool.{Bool, true, false, cond, not}
use mathlib.Core.List.{List}
use lib.ListN.{length}
use lib.Dec.{eqb, ltb}
use borrow.Author.Tests.{ltb-false}
use Rattle.std.specs.Prelude.{Some, None, position, unwrap_or}
use Rattle.std.specs.List.{position_or_len}
use Rattle.std.proofs.lemmas.List.Recursion.{is_position_or_len}
use Rattle.std.proofs.lemmas.List.Sums.{prefix_len-le-length}
use Rattle.schedule.specs.Reading.{body_length}

body-from : (S : List ℕ) → body_length S ≡ position_or_len (λ b. eqb b 10) S
unfolding body_length
body-from = is_position_or_len body_length (λ b. eqb b 10) refl (λ c S. ap (cond (eqb c 10) 0) (omega arith))

within : (n m : ℕ) → n ≤ m → unwrap_or (cond (ltb n m) (Some n) None) m ≡ n
within n m h = go (ltb n m) refl
  where
    go : (t : Bool) → ltb n m ≡ t → unwrap_or (cond t (Some n) None) m ≡ n
    go true e = refl
    go false e = omega (arith, ltb-false n m e)

pub body-position : (S : List ℕ) → unwrap_or (position (λ b. eqb b 10) S) (length S) ≡ body_length S
body-position S = within _ _ (prefix_len-le-length (λ b. not (eqb b 10)) S) ∙ sym (body-from S)
