-- The text of a decimal number: how it grows, how long it is, and that it is what `dec_from` reads.
--     dec-from   what is written is read back
--     dec-taken  only what is written is accepted
-- Assumes nothing.
use Prim.Native.Nat.{ℕ, zero, suc, ◌+◌, ◌-◌, ◌*◌, ◌/◌, ◌%◌, ◌^◌, ◌<◌, ◌≤◌}
use native.Mathlib.Nat.{div-lt_iff_lt-mul, pow-suc, zero-add, add_assoc}
use native.Mathlib.Omega.{arith}
use mathlib.Core.Path.{◌≡◌, refl, sym, ap, ◌∙◌}
use mathlib.Core.Bool.{Bool, true, false}
use mathlib.Core.Logic.{⊎_elim}
use mathlib.Core.List.{List, [], ◌∷◌, ◌++◌, append_assoc}
use lib.Dec.{ltb, eqb}
use lib.ListN.{length, length-append}
use borrow.Author.Tests.{ltb-true, lt-ltb, le-ltb, eqb-true, eqb-false, ne_eqb}
use Rattle.std.specs.Char.{is_ascii_digit}
use Rattle.text.specs.Text.{glyph, digits, dec_text}
use Rattle.text.specs.Scan.{found, Stops, scan_dec, zero_then, dec_from}
use Rattle.text.proofs.Bytes.{same_found, below?, digit-is, digit-range, digit-back, digit-less, glyph-small}

-- ---- the text
-- any number of steps from n on is enough
enough : (f g n : ℕ) → n ≤ f → n ≤ g → digits f n ≡ digits g n
unfolding digits
enough zero zero n h k = refl
enough zero (suc g) n h k = let l : n < 10 = omega arith in rw (lt-ltb n 10 l)
enough (suc f) zero n h k = let l : n < 10 = omega arith in rw (lt-ltb n 10 l)
enough (suc f) (suc g) n h k =
    ⊎_elim (λ l. rw (lt-ltb n 10 l)) (λ b. rw (le-ltb n 10 b) (rw (enough f g (n / 10) (omega arith) (omega arith)))) (below? n 10)

-- a number of one digit
pub dec-small : (n : ℕ) → n < 10 → dec_text n ≡ glyph n ∷ []
unfolding dec_text digits
dec-small zero h = refl
dec-small (suc n) h = rw (lt-ltb (suc n) 10 h)

-- a longer one: the number without its last digit, and that digit
pub dec-grow : (n : ℕ) → 10 ≤ n → dec_text n ≡ dec_text (n / 10) ++ (glyph (n % 10) ∷ [])
unfolding dec_text digits
dec-grow zero h = absurd (omega arith)
dec-grow (suc n) h = rw (le-ltb (suc n) 10 h) (rw (enough n (suc n / 10) (suc n / 10) (omega arith) (omega arith)))

pub dec-step : (a d : ℕ) → 0 < a → d < 10 → dec_text (a * 10 + d) ≡ dec_text a ++ ((48 + d) ∷ [])
dec-step a d ha hd =
    let q : (a * 10 + d) / 10 ≡ a = omega arith in
    let r : (a * 10 + d) % 10 ≡ d = omega arith in
    dec-grow (a * 10 + d) (omega arith) ∙ rw (q, r) (rw (glyph-small d hd))

pub dec-one : (n : ℕ) → n < 10 → dec_text n ≡ (48 + n) ∷ []
dec-one n h = dec-small n h ∙ rw (glyph-small n h)

-- ---- its length
pub one-long : (n : ℕ) → n < 10 → length (dec_text n) ≡ 1
one-long n h = ap length (dec-small n h)

pub one-longer : (n : ℕ) → 10 ≤ n → length (dec_text n) ≡ length (dec_text (n / 10)) + 1
one-longer n g = ap length (dec-grow n g) ∙ length-append (dec_text (n / 10)) (glyph (n % 10) ∷ [])

pub some-long : (n : ℕ) → 0 < length (dec_text n)
some-long n = ⊎_elim (λ l. omega (arith, one-long n l)) (λ g. omega (arith, one-longer n g)) (below? n 10)

pub long-below : (f n : ℕ) → n < 10 ^ suc f → length (dec_text n) ≤ suc f
long-below zero n h = omega (arith, one-long n h)
long-below (suc f) n h = ⊎_elim (λ l. omega (arith, one-long n l)) (λ g.
    omega (arith, one-longer n g, long-below f (n / 10) ((div-lt_iff_lt-mul {k = 10} (omega arith)).1 (rw pow-suc at h)))) (below? n 10)

pub most-long : (n : ℕ) → n < 18446744073709551616 → length (dec_text n) ≤ 20
most-long n h = long-below 19 n (omega arith)

-- ---- reading
scan-stops : (n i : ℕ) (s : List ℕ) → Stops s → scan_dec n i s ≡ found n i
unfolding scan_dec
scan-stops n i [] h = refl
scan-stops n i (c ∷ s) h = rw h

-- a digit is taken
scan-digit : (a d i : ℕ) (s : List ℕ) → d < 10 → a * 10 + d < 18446744073709551616 → scan_dec a i ((48 + d) ∷ s) ≡ scan_dec (a * 10 + d) (i + 1) s
unfolding scan_dec
scan-digit a d i s hd hn =
    let e : 48 + d - 48 ≡ d = omega arith in
    rw (digit-is (48 + d) (omega arith) (omega arith)) (rw e (rw (lt-ltb (a * 10 + d) 18446744073709551616 hn)))

back : (n : ℕ) → n / 10 * 10 + n % 10 ≡ n
back n = omega arith

less : (n : ℕ) → n % 10 < 10
less n = omega arith

zero-fits : (n : ℕ) → n < 10 → 0 * 10 + n < 18446744073709551616
zero-fits n h = omega arith

-- a number's digits are taken one by one
abbrev Scanned : ℕ → Type 0
Scanned n = (i : ℕ) (s : List ℕ) → n < 18446744073709551616 → scan_dec 0 i (dec_text n ++ s) ≡ scan_dec n (i + length (dec_text n)) s

scan-one : (n : ℕ) → n < 10 → Scanned n
scan-one n l i s hn = rw (dec-one n l) (scan-digit 0 n i s l (zero-fits n l) ∙ rw (zero-add n))

scan-more : (n : ℕ) → 10 ≤ n → Scanned (n / 10) → Scanned n
scan-more n g ih i s hn =
    rw (dec-grow n g) (rw (glyph-small (n % 10) (less n)) (rw (append_assoc (dec_text (n / 10)) ((48 + n % 10) ∷ []) s)
    (ih i ((48 + n % 10) ∷ s) (omega arith)
    ∙ scan-digit (n / 10) (n % 10) (i + length (dec_text (n / 10))) s (less n) (omega arith)
    ∙ rw (back n) (rw (length-append, add_assoc i (length (dec_text (n / 10))) 1)))))

scan-dec : (f n : ℕ) → n ≤ f → Scanned n
scan-dec zero n h = scan-one n (omega arith)
scan-dec (suc f) n h = ⊎_elim (λ l. scan-one n l) (λ g. scan-more n g (scan-dec f (n / 10) (omega arith))) (below? n 10)

-- a number that is not 0 does not begin with `0`
dec-head : (f n : ℕ) → n ≤ f → 0 < n → (d : ℕ) × (t : List ℕ) × (0 < d) × (d < 10) × (dec_text n ≡ (48 + d) ∷ t)
dec-head zero n k h = absurd (omega arith)
dec-head (suc f) n k h =
    ⊎_elim (λ l. (n, [], h, l, dec-one n l))
    (λ g. let r = dec-head f (n / 10) (omega arith) (omega arith) in (r.0, r.1 ++ (glyph (n % 10) ∷ []), r.2, r.3, dec-grow n g ∙ ap (λ (t : List ℕ). t ++ (glyph (n % 10) ∷ [])) r.4)) (below? n 10)

from-scan : (d i : ℕ) (t : List ℕ) → 0 < d → d < 10 → dec_from i ((48 + d) ∷ t) ≡ scan_dec 0 i ((48 + d) ∷ t)
unfolding dec_from
from-scan d i t h l =
    let ne : 48 + d ≡ 48 → ⊥ = λ e. omega arith in
    let e : 0 * 10 + d ≡ 48 + d - 48 = omega arith in
    rw (ne_eqb (48 + d) 48 ne) (rw (digit-is (48 + d) (omega arith) (omega arith)) (sym (scan-digit 0 d i t l (zero-fits d l) ∙ ap (λ (k : ℕ). scan_dec k (i + 1) t) e)))

from_zero : (i : ℕ) (s : List ℕ) → Stops s → dec_from i (dec_text 0 ++ s) ≡ found 0 (i + length (dec_text 0))
unfolding dec_text digits dec_from zero_then
from_zero i [] h = refl
from_zero i (c ∷ s) h = rw h

-- WHAT IS WRITTEN IS READ BACK
pub dec-from : (n i : ℕ) (s : List ℕ) → n < 18446744073709551616 → Stops s → dec_from i (dec_text n ++ s) ≡ found n (i + length (dec_text n))
dec-from n i s hn stop = ⊎_elim (λ pos.
    let p = dec-head n n (omega arith) pos in
    ap (λ (t : List ℕ). dec_from i (t ++ s)) p.4 ∙ from-scan p.0 i (p.1 ++ s) p.2 p.3
    ∙ sym (ap (λ (t : List ℕ). scan_dec 0 i (t ++ s)) p.4) ∙ scan-dec n n (omega arith) i s hn ∙ scan-stops n (i + length (dec_text n)) s stop)
    (λ nul. let e : n ≡ 0 = omega arith in rw e (from_zero i s stop)) (below? 0 n)

-- ---- what is accepted: from the position i the list s begins with the text of v, and goes on at n with the rest
pub record Taken (text : List ℕ) (i : ℕ) (s : List ℕ) (n : ℕ) : Type 0 where
  pub rest : List ℕ
  pub split : s ≡ text ++ rest
  pub next : n ≡ i + length text

-- the digits before it, and those that it took, are the text of the value
abbrev Reached : List ℕ → ℕ → List ℕ → ℕ → ℕ → Type 0
Reached pre i s v n = (rest : List ℕ) × (pre ++ s ≡ dec_text v ++ rest) × (n + length rest ≡ i + length s) × (v < 18446744073709551616)

abbrev Only : List ℕ → Type 0
Only s = (a i v n : ℕ) → 0 < a → a < 18446744073709551616 → scan_dec a i s ≡ found v n → Reached (dec_text a) i s v n

-- it stopped here
here : (a i v n : ℕ) (s : List ℕ) → a < 18446744073709551616 → found a i ≡ found v n → Reached (dec_text a) i s v n
here a i v n s ha e =
    let (ev, en) = same_found e in
    (s, rw ev, rw en, rw ev at ha)

step-list : (a c : ℕ) (s : List ℕ) → 0 < a → (48 ≤ c) × (c < 58) → dec_text (a * 10 + (c - 48)) ++ s ≡ dec_text a ++ (c ∷ s)
step-list a c s ha r = ap (λ (t : List ℕ). t ++ s) (dec-step a (c - 48) ha (digit-less c r)) ∙ rw (digit-back c r) (append_assoc (dec_text a) (c ∷ []) s)

only_step : (c : ℕ) (s : List ℕ) → Only s → Only (c ∷ s)
unfolding scan_dec
only_step c s ih a i v n ha fits e = go (is_ascii_digit c) refl
  where
    took : is_ascii_digit c ≡ true → (t : Bool) → ltb (a * 10 + (c - 48)) 18446744073709551616 ≡ t → Reached (dec_text a) i (c ∷ s) v n
    took p false q = absurd (let z : ◌≡◌ {A = ℕ} 0 1 = cc (simp (p, q) at e) in omega arith)
    took p true q =
        let h = ltb-true (a * 10 + (c - 48)) 18446744073709551616 q in
        let r = ih (a * 10 + (c - 48)) (i + 1) v n (omega arith) h (simp (p, q) at e) in
        (r.0, sym (step-list a c s ha (digit-range c p)) ∙ r.1, omega (arith, r.2), r.3)

    go : (t : Bool) → is_ascii_digit c ≡ t → Reached (dec_text a) i (c ∷ s) v n
    go false p = here a i v n (c ∷ s) fits (simp p at e)
    go true p = took p (ltb (a * 10 + (c - 48)) 18446744073709551616) refl

scan-only : (s : List ℕ) → Only s
unfolding scan_dec
scan-only [] = λ a i v n ha fits e. here a i v n [] fits e
scan-only (c ∷ s) = only_step c s (scan-only s)

pub record DecTaken (i : ℕ) (s : List ℕ) (v n : ℕ) : Type 0 where
  pub taken : Taken (dec_text v) i s n
  pub fits : v < 18446744073709551616

only_zero : (i : ℕ) (s : List ℕ) (v n : ℕ) → zero_then (i + 1) s ≡ found v n → DecTaken i (48 ∷ s) v n
unfolding zero_then dec_text digits
only_zero i [] v n e =
    let (ev, en) = same_found e in
    rw (← ev, ← en) (record { taken = record { rest = []; split = refl; next = refl }; fits = omega arith })
only_zero i (c ∷ s) v n e = go (is_ascii_digit c) refl
  where
    go : (t : Bool) → is_ascii_digit c ≡ t → DecTaken i (48 ∷ c ∷ s) v n
    go true p = absurd (let z : ◌≡◌ {A = ℕ} 0 1 = cc (simp p at e) in omega arith)
    go false p =
        let e' : found 0 (i + 1) ≡ found v n = simp p at e in
        let (ev, en) = same_found e' in
        rw (← ev, ← en) (record { taken = record { rest = c ∷ s; split = refl; next = refl }; fits = omega arith })

counted : (text : List ℕ) (i : ℕ) (s rest : List ℕ) (n : ℕ) → s ≡ text ++ rest → n + length rest ≡ i + length s → n ≡ i + length text
counted text i s rest n e c = omega (arith, c, ap length e ∙ length-append text rest)

only-digits : (i c : ℕ) (s : List ℕ) (v n : ℕ) → (c ≡ 48 → ⊥) → is_ascii_digit c ≡ true → scan_dec (c - 48) (i + 1) s ≡ found v n → DecTaken i (c ∷ s) v n
only-digits i c s v n ne p e =
    let g = digit-range c p in
    let r = scan-only s (c - 48) (i + 1) v n (omega arith) (omega arith) e in
    let one : dec_text (c - 48) ≡ c ∷ [] = dec-one (c - 48) (digit-less c g) ∙ rw (digit-back c g) in
    let all : c ∷ s ≡ dec_text v ++ r.0 = ap (λ (t : List ℕ). t ++ s) (sym one) ∙ r.1 in
    record { taken = record { rest = r.0; split = all; next = counted (dec_text v) i (c ∷ s) r.0 n all (omega (arith, r.2)) }; fits = r.3 }

-- ONLY WHAT IS WRITTEN IS ACCEPTED
pub dec-taken : (i : ℕ) (s : List ℕ) (v n : ℕ) → dec_from i s ≡ found v n → DecTaken i s v n
unfolding dec_from
dec-taken i [] v n e = absurd (let z : ◌≡◌ {A = ℕ} 0 1 = cc in omega arith)
dec-taken i (c ∷ s) v n e = go (eqb c 48) refl
  where
    go2 : eqb c 48 ≡ false → (t : Bool) → is_ascii_digit c ≡ t → DecTaken i (c ∷ s) v n
    go2 q false p = absurd (let z : ◌≡◌ {A = ℕ} 0 1 = cc (simp (q, p) at e) in omega arith)
    go2 q true p = only-digits i c s v n (eqb-false c 48 q) p (simp (q, p) at e)

    go : (t : Bool) → eqb c 48 ≡ t → DecTaken i (c ∷ s) v n
    go true q = let is : c ≡ 48 = eqb-true c 48 q in rw is (only_zero i s v n (simp q at e))
    go false q = go2 q (is_ascii_digit c) refl
