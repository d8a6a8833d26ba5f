-- Laws of walks along the index, and of searches for the rows of a key.
-- Assumes nothing.
use mathlib.Core.Path.{◌≡◌, refl, sym, ap, subst, ◌∙◌}
use mathlib.Core.Bool.{Bool, true, false}
use mathlib.Core.List.{List}
use Prim.Native.Nat.{ℕ, ◌+◌, ◌≤◌, ◌<◌}
use native.Mathlib.Decide.{ℕ_discrete}
use native.Mathlib.Omega.{arith}
use Rattle.std.specs.Prelude.{Option, Some, None, eqb}
use borrow.Author.Tests.{eq-eqb, eqb-true}
use Rattle.tables.specs.Index.{newest_at, older_at, key_at, LatestOf, Newest, Walks, Leads, Finds, slot_of, slot_at, Indexed, HasKey, Latest, Passed}

-- how many rows there are up to this one: a walk down the index has no more of them to see
abbrev pub rows_to : Option ℕ → ℕ
rows_to None = 0
rows_to (Some i) = i + 1

pub rows-to-less : {P : ℕ → Type 0} {x y : Option ℕ} {i : ℕ} → x ≡ Some i → LatestOf P i y → rows_to y < rows_to x
rows-to-less {P} {x} {y} {i} e w = rw e (go y w.here)
  where
    go : (y : Option ℕ) → ((j : ℕ) → y ≡ Some j → (j < i) × P j) → rows_to y < i + 1
    go None h = omega arith
    go (Some j) h = let l = (h j refl).0 in omega arith

-- a walk down a slot from x has come to y: a row of the slot, or none
pub record On (R : List ℕ) (t : ℕ) (x y : Option ℕ) : Type 0 where
  pub here : {at : ℕ → ℕ} {s m : ℕ} → Walks at R t s m x → (i : ℕ) → y ≡ Some i → (i < m) × (at i ≡ s)

-- and no row above it has the test
pub record Searched (R : List ℕ) (t : ℕ) (x : Option ℕ) (test : ℕ → Bool) (y : Option ℕ) : Type 0 where
  pub all : {at : ℕ → ℕ} {s m : ℕ} → Walks at R t s m x → (i : ℕ) → i < m → at i ≡ s → test i ≡ true → (j : ℕ) × (y ≡ Some j) × (i ≤ j)

module _ {R : List ℕ} {t : ℕ} {x y : Option ℕ} (on : On R t x y) {i : ℕ} (e : y ≡ Some i) where
  linked : {at : ℕ → ℕ} {s m : ℕ} → Walks at R t s m x → Newest at i (at i) (older_at R t i)
  linked w = w.chained.links i (omega (arith, (on.here w i e).0, w.most))

  pub on-row : Leads R t x → i < 512
  on-row l = omega (arith, (on.here l.walks i e).0, l.walks.most, l.walks.few)

  module _ {z : Option ℕ} (q : z ≡ older_at R t i) where
    pub on-less : Leads R t x → rows_to z < rows_to y
    on-less l = rows-to-less e (subst (λ z. Newest l.at i (l.at i) z) (sym q) (linked l.walks))

    pub on_next : On R t x z
    on_next = record { here = λ w j f. let h = (linked w).here j (sym q ∙ f) in let k = on.here w i e in (omega (arith, h.0, k.0), h.1 ∙ k.1) }

    pub searched-next : {test : ℕ → Bool} → Searched R t x test y → test i ≡ false → Searched R t x test z
    searched-next {test} f d = record { all = λ {at} {s} {m} w j l a h. go w j a h (f.all w j l a h) (ℕ_discrete j i) }
      where
        go : {at : ℕ → ℕ} {s m : ℕ} → Walks at R t s m x → (j : ℕ) → at j ≡ s → test j ≡ true → (k : ℕ) × (y ≡ Some k) × (j ≤ k) → Dec (j ≡ i)
            → (k : ℕ) × (z ≡ Some k) × (j ≤ k)
        go w j a h (k, u, m) (yes v) = let p : test i ≡ true = ap test (sym v) ∙ h in absurd (cc)
        go w j a h (k, u, m) (no v) =
            let p : k ≡ i = cc in
            let (n, r, o) = (linked w).all j (omega arith) (a ∙ sym (on.here w i e).1) in
            (n, q ∙ r, o)

  pub searched-found : {test : ℕ → Bool} → Searched R t x test y → test i ≡ true → Finds R t x test (Some i)
  searched-found {test} f h = record {
    newest = λ at s m w. record {
      here = λ j p. let k : i ≡ j = cc in let (l, a) = on.here w j (e ∙ p) in (l, (a, ap test (sym k) ∙ h));
      all = λ j l (a, p). let (k, u, o) = f.all w j l a p in (k, sym e ∙ u, o);
    };
  }

pub searched_none : {R : List ℕ} {t : ℕ} {x y : Option ℕ} {test : ℕ → Bool} → Searched R t x test y → y ≡ None → Finds R t x test None
searched_none f e = record {
  newest = λ at s m w. record { here = λ i p. absurd (cc); all = λ i l (a, p). let (k, u, o) = f.all w i l a p in absurd (cc) };
}

-- where only rows of the slot have the test
pub found-within : {R : List ℕ} {t : ℕ} {x r : Option ℕ} {test : ℕ → Bool} {at : ℕ → ℕ} {s m : ℕ} → Finds R t x test r → Walks at R t s m x → ((i : ℕ) → test i ≡ true → at i ≡ s)
    → LatestOf (λ i. test i ≡ true) m r
found-within found w within = let f = found.newest _ _ _ w in record {
  here = λ i e. let (l, (_, p)) = f.here i e in (l, p);
  all = λ i l p. f.all i l (within i p, p);
}

-- ---- by keys

pub key-slot : (K : List ℕ) (t w i : ℕ) → HasKey K t w i → slot_at K t i ≡ slot_of w
unfolding slot_at
key-slot K t w i e = ap slot_of e

module _ {K R : List ℕ} {t n : ℕ} (ok : Indexed K R t n) where
  -- the newest row of the slot of w
  pub newest-row : (w : ℕ) {s : ℕ} {x : Option ℕ} → s ≡ slot_of w → s < 256 → x ≡ newest_at R t s → Newest (slot_at K t) n (slot_of w) x
  newest-row w {s} e l q = rw (q, ← e) (ok.chained.slots s l)

  -- the row before row i in its slot
  pub next-row : {i k : ℕ} {x : Option ℕ} → i < n → k ≡ key_at K t i → x ≡ older_at R t i → Newest (slot_at K t) i (slot_of k) x
  unfolding slot_at
  next-row {i} l e q = rw (q, e) (ok.chained.links i l)

pub latest-found : {K R : List ℕ} {t n m w : ℕ} {x r : Option ℕ} → Indexed K R t n → m ≤ n → Newest (slot_at K t) m (slot_of w) x → Finds R t x (λ i. eqb (key_at K t i) w) r
    → Latest K t w m r
latest-found {K} {R} {t} {n} {m} {w} {x} {r} ok few first found = record {
  here = λ i e. let h = f.here i e in (h.0, eqb-true (key_at K t i) w h.1);
  all = λ i l e. f.all i l (eq-eqb (key_at K t i) w e);
}
  where
    f : LatestOf (λ i. eqb (key_at K t i) w ≡ true) m r
    f = found-within found (record { rows = n; few = ok.few; chained = ok.chained; most = few; newest = first }) (λ i e. key-slot K t w i (eqb-true (key_at K t i) w e))

pub next-is : (K : List ℕ) (t i : ℕ) {k : ℕ} {r : Option ℕ} → k ≡ key_at K t i → Latest K t k i r → Latest K t (key_at K t i) i r
next-is K t i {k} {r} e f = subst (λ k. Latest K t k i r) e f

-- a row that has another key has not p

-- so a row that has p has the key
has-key : (p : ℕ → Bool) (K : List ℕ) (t w : ℕ) → ((i : ℕ) → (key_at K t i ≡ w → ⊥) → p i ≡ false) → (i : ℕ) → p i ≡ true → key_at K t i ≡ w
has-key p K t w other i e = elim (ℕ_discrete (key_at K t i) w) [ yes f ↦ f | no f ↦ let g = other i f in absurd (cc) ]

module _ {p : ℕ → Bool} {K : List ℕ} {t w n : ℕ} (other : (i : ℕ) → (key_at K t i ≡ w → ⊥) → p i ≡ false) where
  pub passed_first : {r : Option ℕ} → Latest K t w n r → Passed p K t w n r
  passed_first s = record { here = s.here; all = λ i l e. s.all i l (has-key p K t w other i e) }

  pub passed-next : {i : ℕ} {x r : Option ℕ} → Passed p K t w n x → x ≡ Some i → p i ≡ false → Latest K t (key_at K t i) i r → Passed p K t w n r
  passed-next {i} {x} {r} f u e s = record {
    here = λ j q. let h = s.here j q in let k = f.here i u in (omega (arith, h.0, k.0), h.1 ∙ k.1);
    all = λ j l q. let (k, v, m) = f.all j l q in go j q k v m (ℕ_discrete j i);
  }
    where
      go : (j : ℕ) → p j ≡ true → (k : ℕ) → x ≡ Some k → j ≤ k → Dec (j ≡ i) → (k : ℕ) × (r ≡ Some k) × (j ≤ k)
      go j q k v m (yes z) = let h : p i ≡ true = ap p (sym z) ∙ q in absurd (cc)
      go j q k v m (no z) = let h : k ≡ i = cc in s.all j (omega arith) (has-key p K t w other j q ∙ sym (f.here i u).1)

-- where the search has come to its end no row has p
pub passed_none : {p : ℕ → Bool} {K : List ℕ} {t w n : ℕ} {r : Option ℕ} → Passed p K t w n r → r ≡ None → (i : ℕ) → i < n → p i ≡ false
passed_none {p} f e i l = go (p i) refl
  where
    go : (b : Bool) → p i ≡ b → p i ≡ false
    go false q = q
    go true q = let (j, u, m) = f.all i l q in absurd (cc)
