-- The text of a set of k hexadecimal digits: that it is what `scan_hex` reads.
--     hex-from   what is written is read back
--     hex-taken  only what is written is accepted
-- Assumes nothing.
use Prim.Native.Nat.{ℕ, zero, suc, ◌+◌, ◌*◌, ◌/◌, ◌%◌, ◌^◌, ◌<◌}
use native.Mathlib.Nat.{div-lt_iff_lt-mul, pow-suc, suc-add, add-suc, zero-add, add-zero}
use native.Mathlib.Omega.{arith}
use mathlib.Core.Path.{◌≡◌, refl, sym, ap, ◌∙◌}
use mathlib.Core.Bool.{Bool, true, false}
use mathlib.Core.List.{List, [], ◌∷◌, ◌++◌, append_assoc}
use lib.Dec.{ltb}
use lib.ListN.{length, length-append}
use borrow.Author.Tests.{ltb-true, lt-ltb}
use Rattle.text.specs.Text.{glyph, hex_text}
use Rattle.text.specs.Scan.{found, hex_val, scan_hex}
use Rattle.text.proofs.Bytes.{same_found, val_of, byte_of}
use Rattle.text.proofs.Decimal.{Taken}

pub hex-length : (k n : ℕ) → length (hex_text k n) ≡ k
unfolding hex_text
hex-length zero n = refl
hex-length (suc k) n = rw (length-append, hex-length k (n / 16)) (omega arith)

back : (n : ℕ) → n / 16 * 16 + n % 16 ≡ n
back n = omega arith

less : (n : ℕ) → n % 16 < 16
less n = omega arith

-- a digit is taken
scan-nibble : (j a d i : ℕ) (s : List ℕ) → d < 16 → scan_hex (suc j) a i (glyph d ∷ s) ≡ scan_hex j (a * 16 + d) (i + 1) s
unfolding scan_hex
scan-nibble j a d i s h = rw (val_of d h) (rw (lt-ltb d 16 h))

-- the digits of n are taken, and j more are to come
scan-hex : (k j n i : ℕ) (s : List ℕ) → n < 16 ^ k → scan_hex (j + k) 0 i (hex_text k n ++ s) ≡ scan_hex j n (i + k) s
unfolding hex_text
scan-hex zero j n i s h = let e : n ≡ 0 = omega arith in rw (e, add-zero j, add-zero i)
scan-hex (suc k) j n i s h =
    rw (append_assoc (hex_text k (n / 16)) (glyph (n % 16) ∷ []) s)
    (ap (λ (m : ℕ). scan_hex m 0 i (hex_text k (n / 16) ++ (glyph (n % 16) ∷ s))) (add-suc j k ∙ sym (suc-add j k))
    ∙ scan-hex k (suc j) (n / 16) i (glyph (n % 16) ∷ s) ((div-lt_iff_lt-mul {k = 16} (omega arith)).1 (rw pow-suc at h))
    ∙ scan-nibble j (n / 16) (n % 16) (i + k) s (less n)
    ∙ rw (back n) (ap (λ (m : ℕ). scan_hex j n m s) (omega arith)))

-- WHAT IS WRITTEN IS READ BACK
pub hex-from : (k n i : ℕ) (s : List ℕ) → n < 16 ^ k → scan_hex k 0 i (hex_text k n ++ s) ≡ found n (i + k)
unfolding scan_hex
hex-from k n i s h = ap (λ (m : ℕ). scan_hex m 0 i (hex_text k n ++ s)) (sym (zero-add k)) ∙ scan-hex k 0 n i s h

pub hex-step : (m a d : ℕ) → d < 16 → hex_text (suc m) (a * 16 + d) ≡ hex_text m a ++ (glyph d ∷ [])
unfolding hex_text
hex-step m a d h =
    let q : (a * 16 + d) / 16 ≡ a = omega arith in
    let r : (a * 16 + d) % 16 ≡ d = omega arith in
    rw (q, r)

-- the m digits before it and the k that it took are the text of the value
abbrev Reached : ℕ → ℕ → ℕ → ℕ → List ℕ → ℕ → ℕ → Type 0
Reached k m a i s v n = (rest : List ℕ) × (hex_text m a ++ s ≡ hex_text (m + k) v ++ rest) × (n ≡ i + k) × (v < 16 ^ (m + k))

pub hex-grow : (m a d : ℕ) → a < 16 ^ m → d < 16 → a * 16 + d < 16 ^ suc m
hex-grow m a d h l = rw pow-suc (omega arith)

hex-list : (m a c : ℕ) (s : List ℕ) → hex_val c < 16 → hex_text (suc m) (a * 16 + hex_val c) ++ s ≡ hex_text m a ++ (c ∷ s)
hex-list m a c s g = ap (λ (t : List ℕ). t ++ s) (hex-step m a (hex_val c) g) ∙ rw (byte_of c g) (append_assoc (hex_text m a) (c ∷ []) s)

turn : (m k : ℕ) → suc m + k ≡ m + suc k
turn m k = suc-add m k ∙ sym (add-suc m k)

reached : (k m a i : ℕ) (s : List ℕ) (v n : ℕ) → a < 16 ^ m → scan_hex k a i s ≡ found v n → Reached k m a i s v n
unfolding scan_hex
reached zero m a i s v n ha e =
    let (ev, en) = same_found e in
    rw (add-zero m, ← ev, ← en, add-zero i) (s, refl, refl, ha)
reached (suc k) m a i [] v n ha e = absurd (let z : ◌≡◌ {A = ℕ} 0 1 = cc in omega arith)
reached (suc k) m a i (c ∷ s) v n ha e = go (λ a'. reached k (suc m) a' (i + 1) s v n) (ltb (hex_val c) 16) refl
  where
    go : ((a' : ℕ) → a' < 16 ^ suc m → scan_hex k a' (i + 1) s ≡ found v n → Reached k (suc m) a' (i + 1) s v n) → (t : Bool) → ltb (hex_val c) 16 ≡ t → Reached (suc k) m a i (c ∷ s) v n
    go ih false p = absurd (let z : ◌≡◌ {A = ℕ} 0 1 = cc (simp p at e) in omega arith)
    go ih true p =
        let g = ltb-true (hex_val c) 16 p in
        let r = ih (a * 16 + hex_val c) (hex-grow m a (hex_val c) ha g) (simp p at e) in
        (r.0, sym (hex-list m a c s g) ∙ r.1 ∙ ap (λ (w : ℕ). hex_text w v ++ r.0) (turn m k), r.2 ∙ omega arith, rw (turn m k) at r.3)

-- ONLY WHAT IS WRITTEN IS ACCEPTED
pub record HexTaken (k i : ℕ) (s : List ℕ) (v n : ℕ) : Type 0 where
  pub taken : Taken (hex_text k v) i s n
  pub fits : v < 16 ^ k

pub hex-taken : (k i : ℕ) (s : List ℕ) (v n : ℕ) → scan_hex k 0 i s ≡ found v n → HexTaken k i s v n
unfolding hex_text
hex-taken k i s v n e =
    let r = reached k 0 0 i s v n (omega arith) e in
    record { taken = record { rest = r.0; split = rw (zero-add k) at r.1; next = r.2 ∙ ap (λ (j : ℕ). i + j) (sym (hex-length k v)) }; fits = rw (zero-add k) at r.3 }
