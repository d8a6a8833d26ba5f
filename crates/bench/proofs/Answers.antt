-- What a run over any memory answers.
-- Assumes nothing.
use Prim.Native.Nat.{ℕ, ◌<◌, ◌≤◌}
use native.Mathlib.Nat.{zero-add}
use native.Mathlib.Decide.{dec_lt}
use native.Mathlib.Omega.{arith}
use mathlib.Core.Path.{refl, ap, ◌∙◌}
use mathlib.Core.List.{List, ◌++◌}
use lib.ListN.{length, drop, length-append}
use lib.Seq.{sets-eq}
use Rattle.bench.specs.Rows.{Answered}
use Rattle.bench.specs.Running.{PrintedInto, Long}
use Rattle.bench.proofs.One.{printed-one}

pub wrote-long : {S R : List ℕ} {r : ℕ} {R' : List ℕ} → PrintedInto S R r R' → Long S r
wrote-long w = record { text = w.text; printed = w.printed; long = omega (arith, w.wrote.next); small = w.small }

-- the rows have room
pub has_room : (S R : List ℕ) (r : ℕ) (R' : List ℕ) (w : PrintedInto S R r R') → length w.text ≤ length R → Answered S R r R'
has_room S R r R' w l = record {
  text = w.text;
  printed = w.printed;
  most = w.small;
  fits = λ h. (omega (arith, w.wrote.next), w.wrote.is ∙ sets-eq w.text R 0 (omega arith) ∙ ap (λ k. w.text ++ drop k R) (zero-add (length w.text)));
  short = λ h. absurd (omega arith);
}

pub known-room : (S R : List ℕ) (n r : ℕ) (R' : List ℕ) → Long S n → n ≤ length R → PrintedInto S R r R' → Answered S R r R'
known-room S R n r R' k l w = has_room S R r R' w (omega (arith, k.long, ap length (printed-one S w.text k.text w.printed k.printed)))

pub large-room : (S R : List ℕ) (r : ℕ) (R' : List ℕ) → 2621504 ≤ length R → PrintedInto S R r R' → Answered S R r R'
large-room S R r R' l w = has_room S R r R' w (omega (arith, w.small))

-- the rows have no room
pub no_room : (S R : List ℕ) (n : ℕ) → Long S n → length R < n → Answered S R 0 R
no_room S R n k l = record {
  text = k.text;
  printed = k.printed;
  most = k.small;
  fits = λ h. absurd (omega (arith, k.long));
  short = λ h. (refl, refl);
}

-- no more is answered than the memory has
pub answer-within : (S R : List ℕ) (r : ℕ) (R' : List ℕ) → Answered S R r R' → r ≤ length R'
answer-within S R r R' a = elim (dec_lt (length R) (length a.text)) [
  | yes h ↦ omega (arith, (a.short h).0)
  | no h ↦ (let f = a.fits (omega arith) in omega (arith, f.0, ap length f.1, length-append a.text (drop (length a.text) R)))
]
