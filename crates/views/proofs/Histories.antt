-- Laws of lists of views by index: the last, one more, when they rise and when they are a history.
-- Assumes nothing.
use mathlib.Core.Path.{◌≡◌, refl, sym, ap, ap₂, ◌∙◌}
use Rattle.std.specs.Bool.{one_answer}
use Rattle.std.specs.List.{list_all, zip}
use mathlib.Core.Bool.{Bool, true, false, ◌&&◌, and-true, and-false, and_assoc, true≢false}
use mathlib.Core.List.{List, [], ◌∷◌, ◌++◌, map}
use Prim.Native.Nat.{ℕ, zero, suc, ◌+◌, ◌-◌, ◌≤◌, ◌<◌}
use native.Mathlib.Decide.{dec_lt}
use native.Mathlib.Omega.{arith}
use lib.ListN.{length}
use Rattle.protocol.specs.Lists.{list_of}
use Rattle.protocol.specs.View.{View, Ring, same_view, below}
use Rattle.protocol.specs.History.{same_views, last, top, rising}
use Rattle.protocol.specs.Statement.{is_rising}
use Rattle.protocol.proofs.Decided.{says-sames}
use Rattle.protocol.proofs.Numbered.{list_of-length}
use Rattle.views.proofs.Tables.{list_of-same-at}
use Rattle.views.proofs.Views.{passes, fails}

-- a test of one view, and of two, asked of equal ones

pub asked-one : (p : View → Bool) {u x : View} (b r : Bool) → b ≡ p u → b ≡ r → u ≡ x → p x ≡ r
asked-one p b r e f g = sym (ap p g) ∙ sym e ∙ f

pub asked : (p : View → View → Bool) {u v x y : View} (b r : Bool) → b ≡ p u v → b ≡ r → u ≡ x → v ≡ y → p x y ≡ r
asked p b r e f g h = sym (ap₂ p g h) ∙ sym e ∙ f

-- ---- two lists

module _ (f g : ℕ → View) where
  pub sames-short : (m n : ℕ) → (m ≡ n → ⊥) → false ≡ same_views (list_of m f) (list_of n g)
  sames-short m n d = sym (fails (says-sames (list_of m f) (list_of n g)) (λ q. d (sym (list_of-length m f) ∙ ap length q ∙ list_of-length n g)))

  pub sames-differ : (n p : ℕ) → p < n → (f p ≡ g p → ⊥) → false ≡ same_views (list_of n f) (list_of n g)
  sames-differ n p l d = sym (fails (says-sames (list_of n f) (list_of n g)) (λ q. d (list_of-same-at n f g p l q)))

  pub sames_all : (n : ℕ) → list_of n f ≡ list_of n g → true ≡ same_views (list_of n f) (list_of n g)
  sames_all n q = sym (passes (says-sames (list_of n f) (list_of n g)) q)

-- two lists of one length, view by view
pub sames-zip : {X Y : Type 0} (g : X → View) (h : Y → View) (k : List X) (l : List Y) → length k ≡ length l → list_all (λ p. same_view (g p.0) (h p.1)) (zip k l) ≡ same_views (map g k) (map h l)
unfolding same_views
sames-zip g h [] [] e = refl
sames-zip g h [] (y ∷ l) e = absurd (omega arith)
sames-zip g h (x ∷ k) [] e = absurd (omega arith)
sames-zip g h (x ∷ k) (y ∷ l) e = ap (λ b. same_view (g x) (h y) && b) (sames-zip g h k l (omega arith))

pub sames-long : (k l : List View) → (length k ≡ length l → ⊥) → false ≡ same_views k l
sames-long k l d = sym (fails (says-sames k l) (λ q. d (ap length q)))

-- ---- one view more

last_snoc : (u : View) (H : List View) (v : View) → last u (H ++ (v ∷ [])) ≡ v
unfolding last
last_snoc u [] v = refl
last_snoc u (x ∷ H) v = last_snoc x H v

rising_snoc : (w : ℕ) (u : View) (H : List View) (v : View) → rising w u (H ++ (v ∷ [])) ≡ (rising w u H && below w (last u H) v)
unfolding rising last
rising_snoc w u [] v = and-true (below w u v)
rising_snoc w u (x ∷ H) v = ap (λ b. below w u x && b) (rising_snoc w x H v) ∙ sym (and_assoc (below w u x) (rising w x H) (below w (last x H) v))

module _ (f : ℕ → View) where
  list_of-last : (n : ℕ) (u : View) → 0 < n → last u (list_of n f) ≡ f (n - 1)
  unfolding list_of
  list_of-last zero u l = absurd (omega arith)
  list_of-last (suc n) u l = last_snoc u (list_of n f) (f n) ∙ (let e : n ≡ suc n - 1 = omega arith in ap f e)

  pub last_none : (c : ℕ) (u : View) → c ≡ 0 → u ≡ last u (list_of c f)
  unfolding last list_of
  last_none c u z = rw z

  pub last_some : (c : ℕ) (u : View) → (c ≡ 0 → ⊥) → f (c - 1) ≡ last u (list_of c f)
  last_some c u z = sym (list_of-last c u (omega arith))

  -- ---- rising

  module _ (w : ℕ) where
    pub rising_none : (c : ℕ) → c ≡ 0 → false ≡ is_rising w (list_of c f)
    unfolding list_of
    rising_none c z = rw z

    rising-one : is_rising w (list_of 1 f) ≡ true
    unfolding list_of rising
    rising-one = refl

    rising-join : (H : List View) (v : View) → 0 < length H → is_rising w (H ++ (v ∷ [])) ≡ (is_rising w H && below w (last v H) v)
    unfolding last
    rising-join [] v l = absurd (omega arith)
    rising-join (x ∷ H) v l = rising_snoc w x H v

    rising-suc : (p : ℕ) → 0 < p → is_rising w (list_of (suc p) f) ≡ (is_rising w (list_of p f) && below w (f (p - 1)) (f p))
    unfolding list_of
    rising-suc p l = rising-join (list_of p f) (f p) (rw (list_of-length p f) l) ∙ ap (λ u. is_rising w (list_of p f) && below w u (f p)) (list_of-last p (f p) l)

    rising-stop : (c p : ℕ) → 0 < p → p ≤ c → is_rising w (list_of p f) ≡ false → is_rising w (list_of c f) ≡ false
    rising-stop zero p l h e = absurd (omega arith)
    rising-stop (suc c) p l h e = elim (dec_lt c p) [
      | yes m ↦ (let q : p ≡ suc c = omega arith in rw q at e)
      | no m ↦ rising-suc c (omega arith) ∙ ap (λ b. b && below w (f (c - 1)) (f c)) (rising-stop c p l (omega arith) e)
    ]

    rising-breaks : (c p : ℕ) → 0 < p → p < c → below w (f (p - 1)) (f p) ≡ false → is_rising w (list_of c f) ≡ false
    rising-breaks c p l h e = rising-stop c (suc p) (omega arith) (omega arith) (rising-suc p l ∙ ap (λ b. is_rising w (list_of p f) && b) e ∙ and-false (is_rising w (list_of p f)))

    rising-more : (p : ℕ) → 0 < p → is_rising w (list_of p f) ≡ true → below w (f (p - 1)) (f p) ≡ true → is_rising w (list_of (suc p) f) ≡ true
    rising-more p l t b = rising-suc p l ∙ ap₂ ◌&&◌ t b

    -- each view lies below the next
    abbrev pub Steps : ℕ → Type 0
    Steps n = (k : ℕ) → k + 1 < n → below w (f k) (f (k + 1)) ≡ true

    rising-each : (n : ℕ) → is_rising w (list_of n f) ≡ true → Steps n
    rising-each n e k l = go (below w (f k) (f (k + 1))) refl
      where
        go : (b : Bool) → below w (f k) (f (k + 1)) ≡ b → b ≡ true
        go true q = refl
        go false q = absurd (true≢false (sym e ∙ rising-breaks n (k + 1) (omega arith) l ((let z : k + 1 - 1 ≡ k = omega arith in ap (λ i. below w (f i) (f (k + 1))) z) ∙ q)))

    rising-all : (n : ℕ) → 0 < n → Steps n → is_rising w (list_of n f) ≡ true
    rising-all zero l h = absurd (omega arith)
    rising-all (suc zero) l h = rising-one
    rising-all (suc (suc n)) l h = rising-more (suc n) (omega arith) (rising-all (suc n) (omega arith) (λ k m. h k (omega arith))) ((let y : suc n - 1 ≡ n = omega arith in let z : suc n ≡ n + 1 = omega arith in ap₂ (λ i j. below w (f i) (f j)) y z) ∙ h n (omega arith))

    -- a test of the steps tells whether they rise
    pub rising-is : (n : ℕ) (r : Bool) → 0 < n → (r ≡ true → Steps n) → (Steps n → r ≡ true) → r ≡ is_rising w (list_of n f)
    rising-is n r l h k = one_answer r (is_rising w (list_of n f)) (h, k) (rising-each n, rising-all n l)

  -- ---- a history

  module _ (R : Ring) where
    open R use {width, init}

    pub top-none : (c : ℕ) → c ≡ 0 → init ≡ top R (list_of c f)
    unfolding top
    top-none c z = last_none c init z

    pub top-some : (c : ℕ) → (c ≡ 0 → ⊥) → f (c - 1) ≡ top R (list_of c f)
    unfolding top
    top-some c z = last_some c init z
