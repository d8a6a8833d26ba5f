-- Laws of the index, by any slots of the rows: none, one row more, and what leaves it as it is.
-- Assumes nothing.
use mathlib.Core.Path.{◌≡◌, refl, sym, ap, ◌∙◌}
use mathlib.Core.List.{List}
use Prim.Native.Nat.{ℕ, ◌+◌, ◌*◌, ◌≤◌, ◌<◌}
use native.Mathlib.Decide.{ℕ_discrete}
use native.Mathlib.Omega.{arith}
use lib.ListN.{replicate, get_or-replicate}
use Rattle.std.specs.Prelude.{Option, Some, None}
use Rattle.tables.specs.Index.{row_of, newest_at, older_at, SameRows, SameKeys, Empty, RowLinked, RowNumbered, RowKeyed, Newest, Chained, slot_of, slot_at, Indexed, RowAdded}

newest-first : (at : ℕ → ℕ) (s : ℕ) {x : Option ℕ} → x ≡ None → Newest at 0 s x
newest-first at s e = record { here = λ i f. absurd (cc); all = λ i l. absurd (omega arith) }

newest-same : (at at' : ℕ → ℕ) (n s s' : ℕ) {x : Option ℕ} → ((i : ℕ) → i < n → at' i ≡ at i) → s' ≡ s → Newest at n s x → Newest at' n s' x
newest-same at at' n s s' f e w = record {
  here = λ i q. let h = w.here i q in (h.0, f i h.0 ∙ h.1 ∙ sym e);
  all = λ i l q. w.all i l (sym (f i l) ∙ q ∙ e);
}

-- row n is of slot s
newest-new : (at : ℕ → ℕ) (n s : ℕ) {x : Option ℕ} → at n ≡ s → x ≡ Some n → Newest at (n + 1) s x
newest-new at n s e f = record {
  here = λ i q. let h : i ≡ n = cc in (omega arith, ap at h ∙ e);
  all = λ i l q. (n, f, omega arith);
}

-- row n is of another
newest-old : (at : ℕ → ℕ) (n s : ℕ) {x : Option ℕ} → (at n ≡ s → ⊥) → Newest at n s x → Newest at (n + 1) s x
newest-old at n s {x} d w = record { here = λ i q. let h = w.here i q in (omega (arith, h.0), h.1); all = λ i l q. go i l q (ℕ_discrete i n) }
  where
    go : (i : ℕ) → i < n + 1 → at i ≡ s → Dec (i ≡ n) → (j : ℕ) × (x ≡ Some j) × (i ≤ j)
    go i l q (yes u) = absurd (d (rw u at q))
    go i l q (no u) = w.all i (omega arith) q

-- an array that was just made
pub empty-made : (t : ℕ) → t < 2 → Empty (replicate 2560 0) t
unfolding newest_at row_of
empty-made t l = record { none = λ s h. ap row_of (get_or-replicate {A = ℕ} 2560 (t * 1280 + s) 0 0 (omega arith)) }

pub chained-first : {at : ℕ → ℕ} {R : List ℕ} {t : ℕ} → Empty R t → Chained at R t 0
chained-first f = record { slots = λ s l. newest-first _ s (f.none s l); links = λ i l. absurd (omega arith) }

-- the rows below n are of the same slots
pub chained_same : {at at' : ℕ → ℕ} {R : List ℕ} {t n : ℕ} → ((i : ℕ) → i < n → at' i ≡ at i) → Chained at R t n → Chained at' R t n
chained_same f w = record {
  slots = λ s l. newest-same _ _ _ s s f refl (w.slots s l);
  links = λ i l. newest-same _ _ i _ _ (λ j m. f j (omega arith)) (f i l) (w.links i l);
}

-- the index is the same
chained-as : {at : ℕ → ℕ} {R R' : List ℕ} {t n : ℕ} → n ≤ 512 → ((s : ℕ) → s < 256 → newest_at R' t s ≡ newest_at R t s) → ((i : ℕ) → i < 512 → older_at R' t i ≡ older_at R t i)
    → Chained at R t n → Chained at R' t n
chained-as few f g w = record { slots = λ s l. rw (f s l) (w.slots s l); links = λ i l. rw (g i (omega arith)) (w.links i l) }

pub chained-kept : {at : ℕ → ℕ} {R R' : List ℕ} {t n : ℕ} → n ≤ 512 → SameRows R R' t → Chained at R t n → Chained at R' t n
chained-kept few same w = chained-as few same.newest same.older w

pub chained-numbered : {at : ℕ → ℕ} {R R' : List ℕ} {t n i x : ℕ} → n ≤ 512 → RowNumbered R t i x R' → Chained at R t n → Chained at R' t n
chained-numbered few put w = chained-as few put.slots put.links w

-- row n goes into its slot
pub chained-new : {at : ℕ → ℕ} {R R' : List ℕ} {t s n : ℕ} → n < 512 → s < 256 → at n ≡ s → RowLinked R t s n R' → Chained at R t n → Chained at R' t (n + 1)
chained-new {at} {R} {R'} {t} {s} {n} l m e put w = record { slots = λ z h. slot z h (ℕ_discrete z s); links = λ i h. link i h (ℕ_discrete i n) }
  where
    slot : (z : ℕ) → z < 256 → Dec (z ≡ s) → Newest at (n + 1) z (newest_at R' t z)
    slot z h (yes u) = newest-new at n z (e ∙ sym u) (ap (newest_at R' t) u ∙ put.newest)
    slot z h (no u) = rw (put.slots z h u) (newest-old at n z (λ v. u (sym v ∙ e)) (w.slots z h))

    link : (i : ℕ) → i < n + 1 → Dec (i ≡ n) → Newest at i (at i) (older_at R' t i)
    link i h (yes u) = rw (u, put.older, e) (w.slots s m)
    link i h (no u) = rw (put.links i (omega arith) u) (w.links i (omega arith))

-- ---- the index by keys

pub indexed-first : {K R : List ℕ} {t : ℕ} → Empty R t → Indexed K R t 0
indexed-first f = record { few = omega arith; chained = chained-first f }

pub indexed-kept : {K K' R R' : List ℕ} {t n : ℕ} → SameKeys K K' t → SameRows R R' t → Indexed K R t n → Indexed K' R' t n
unfolding slot_at
indexed-kept keys rows w = record { few = w.few; chained = chained-kept w.few rows (chained_same (λ i l. ap slot_of (keys.key i (omega (arith, w.few)))) w.chained) }

pub empty-kept : {R R' : List ℕ} {t : ℕ} → SameRows R R' t → Empty R t → Empty R' t
empty-kept same f = record { none = λ s l. same.newest s l ∙ f.none s l }

pub rows-again : {R R' R'' : List ℕ} {t : ℕ} → SameRows R R' t → SameRows R' R'' t → SameRows R R'' t
rows-again f g = record { newest = λ s l. g.newest s l ∙ f.newest s l; older = λ i l. g.older i l ∙ f.older i l; number = λ i l. g.number i l ∙ f.number i l }

pub keys-again : {K K' K'' : List ℕ} {t : ℕ} → SameKeys K K' t → SameKeys K' K'' t → SameKeys K K'' t
keys-again f g = record { key = λ i l. g.key i l ∙ f.key i l }

pub rows_same : {R : List ℕ} {t : ℕ} → SameRows R R t
rows_same = record { newest = λ s l. refl; older = λ i l. refl; number = λ i l. refl }

pub keys-same : {K : List ℕ} {t : ℕ} → SameKeys K K t
keys-same = record { key = λ i l. refl }

-- a row with its key, its number and its slot
pub added : {K K' R R' R'' : List ℕ} {t i w x s : ℕ} → t < 2 → i < 512 → RowKeyed K t i w K' → RowNumbered R t i x R' → s ≡ slot_of w → s < 256 → RowLinked R' t s i R'' → RowAdded K R t i w x K' R''
unfolding slot_at
added {K} {K'} {R} {R'} {R''} {t} {i} {w} {x} b l k n e m put = record {
  key = k.here;
  number = put.numbers i l ∙ n.here;
  keys = k.keys;
  numbers = λ j h d. put.numbers j h ∙ n.numbers j h d;
  indexed = λ old. record {
    few = omega arith;
    chained = chained-new l m (ap slot_of k.here ∙ sym e) put (chained-numbered old.few n (chained_same (λ j h. ap slot_of (k.keys j (omega arith) (λ d. omega arith))) old.chained));
  };
  rows = λ u h d. rows-again (n.others u h d) (put.others u h d);
  others = k.others;
}
