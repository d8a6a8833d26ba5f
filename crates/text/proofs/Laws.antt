-- The laws of the fields, for whoever reads or writes a line. Each is said of what is left of the line at a position, `drop at S`, so that a field's law takes one such fact to the next.
--     dec-at, hex-at       what is written is read back
--     dec-only, hex-only   only what is written is accepted
--     dec-same, hex-same   two fields with one text are one
--     comma-is, comma-only a comma, both ways
-- Assumes nothing.
use Prim.Native.Nat.{ℕ, ◌+◌, ◌^◌, ◌<◌}
use native.Mathlib.Nat.{add-zero}
use native.Mathlib.Numerals.{add-one}
use native.Mathlib.Omega.{arith}
use mathlib.Core.Path.{◌≡◌, refl, sym, ap, ◌∙◌}
use mathlib.Core.Bool.{true}
use mathlib.Core.Logic.{⊎_elim}
use mathlib.Core.List.{List, [], ◌∷◌, ◌++◌}
use lib.ListN.{length, drop, get_or, get_or-eq_default}
use lib.Seq.{drop-drop, drop-append_seam, drop-cons, get_or-drop}
use borrow.Author.Tests.{eqb-true, eq-eqb}
use Rattle.text.specs.Text.{dec_text, hex_text}
use Rattle.text.specs.Scan.{found, Stops, dec_from, dec_at, scan_hex, hex_at, is_comma}
use Rattle.text.proofs.Bytes.{same_found, below?}
use Rattle.text.proofs.Decimal.{Taken, dec-from, dec-taken}
use Rattle.text.proofs.Hex.{hex-from, hex-taken}

-- after the text the rest is left
pub after : (S : List ℕ) (at : ℕ) (text rest : List ℕ) → drop at S ≡ text ++ rest → drop (at + length text) S ≡ rest
after S at text rest e = sym (drop-drop (length text) at S) ∙ ap (λ (l : List ℕ). drop (length text) l) e ∙ drop-append_seam text rest

-- ---- WHAT IS WRITTEN IS READ BACK
pub dec-at : (S : List ℕ) (at v : ℕ) (rest : List ℕ) → v < 18446744073709551616 → Stops rest → drop at S ≡ dec_text v ++ rest → dec_at S at ≡ found v (at + length (dec_text v))
unfolding dec_at
dec-at S at v rest h stop e = ap (dec_from at) e ∙ dec-from v at rest h stop

pub hex-at : (k : ℕ) (S : List ℕ) (at v : ℕ) (rest : List ℕ) → v < 16 ^ k → drop at S ≡ hex_text k v ++ rest → hex_at S at k ≡ found v (at + k)
unfolding hex_at
hex-at k S at v rest h e = ap (scan_hex k 0 at) e ∙ hex-from k v at rest h

-- ---- ONLY WHAT IS WRITTEN IS ACCEPTED
left : (S : List ℕ) (at n : ℕ) (text : List ℕ) → Taken text at (drop at S) n → drop at S ≡ text ++ drop n S
left S at n text f = f.split ∙ ap (λ (l : List ℕ). text ++ l) (sym (after S at text f.rest f.split) ∙ ap (λ (k : ℕ). drop k S) (sym f.next))

pub dec-only : (S : List ℕ) (at v n : ℕ) → dec_at S at ≡ found v n → (drop at S ≡ dec_text v ++ drop n S) × (n ≡ at + length (dec_text v)) × (v < 18446744073709551616)
unfolding dec_at
dec-only S at v n e = let o = dec-taken at (drop at S) v n e in (left S at n (dec_text v) o.taken, o.taken.next, o.fits)

pub hex-only : (k : ℕ) (S : List ℕ) (at v n : ℕ) → hex_at S at k ≡ found v n → (drop at S ≡ hex_text k v ++ drop n S) × (n ≡ at + length (hex_text k v)) × (v < 16 ^ k)
unfolding hex_at
hex-only k S at v n e = let o = hex-taken k at (drop at S) v n e in (left S at n (hex_text k v) o.taken, o.taken.next, o.fits)

-- ---- ONE TEXT, ONE VALUE, whatever may follow
pub dec-same : (v v' : ℕ) (r r' : List ℕ) → v < 18446744073709551616 → v' < 18446744073709551616 → Stops r → Stops r' → dec_text v ++ r ≡ dec_text v' ++ r' → (v ≡ v') × (r ≡ r')
dec-same v v' r r' h h' st st' e =
    let S : List ℕ = dec_text v ++ r in
    let a = dec-at S 0 v r h st refl in
    let b = dec-at S 0 v' r' h' st' e in
    let ev = (same_found (sym a ∙ b)).0 in
    (ev, sym (after S 0 (dec_text v) r refl) ∙ ap (λ (k : ℕ). drop (0 + length (dec_text k)) S) ev ∙ after S 0 (dec_text v') r' e)

pub hex-same : (k v v' : ℕ) (r r' : List ℕ) → v < 16 ^ k → v' < 16 ^ k → hex_text k v ++ r ≡ hex_text k v' ++ r' → (v ≡ v') × (r ≡ r')
hex-same k v v' r r' h h' e =
    let S : List ℕ = hex_text k v ++ r in
    let a = hex-at k S 0 v r h refl in
    let b = hex-at k S 0 v' r' h' e in
    let ev = (same_found (sym a ∙ b)).0 in
    (ev, sym (after S 0 (hex_text k v) r refl) ∙ ap (λ (n : ℕ). drop (0 + length (hex_text k n)) S) ev ∙ after S 0 (hex_text k v') r' e)

-- ---- commas
pub comma-is : (S : List ℕ) (n : ℕ) (rest : List ℕ) → drop n S ≡ 44 ∷ rest → is_comma S n ≡ true
comma-is S n rest e = eq-eqb (get_or S n 0) 44 (ap (λ (k : ℕ). get_or S k 0) (sym (add-zero n)) ∙ sym (get_or-drop n S 0 0) ∙ ap (λ (l : List ℕ). get_or l 0 0) e)

pub comma-next : (S : List ℕ) (n : ℕ) (rest : List ℕ) → drop n S ≡ 44 ∷ rest → drop (n + 1) S ≡ rest
comma-next S n rest e = after S n (44 ∷ []) rest e

pub comma-in : (S : List ℕ) (n : ℕ) → is_comma S n ≡ true → n < length S
comma-in S n e = ⊎_elim (λ l. l) (λ g. absurd (omega (arith, sym (get_or-eq_default S 0 g) ∙ eqb-true (get_or S n 0) 44 e))) (below? n (length S))

pub comma-only : (S : List ℕ) (n : ℕ) → is_comma S n ≡ true → drop n S ≡ 44 ∷ drop (n + 1) S
comma-only S n e = drop-cons S n 0 (comma-in S n e) ∙ rw (eqb-true (get_or S n 0) 44 e, add-one n)
