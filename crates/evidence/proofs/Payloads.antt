-- Laws of the list of what the senders prepared.
-- Assumes nothing.
use mathlib.Core.Path.{◌≡◌, refl, sym, ap, ap₂, subst, ◌∙◌}
use mathlib.Core.Logic.{◌⊎◌, inl, inr, ◌≢◌}
use Rattle.std.specs.Prelude.{Option, Some, None, is_some}
use mathlib.Core.Bool.{Bool, true, false, not, ◌&&◌, ◌||◌, or-false}
use mathlib.Core.List.{List}
use Prim.Native.Nat.{ℕ, zero, suc, ◌+◌, ◌≤◌, ◌<◌, min}
use native.Mathlib.Decide.{ℕ_discrete}
use native.Mathlib.Numerals.{add-one}
use native.Mathlib.Omega.{arith}
use lib.Dec.{T, eqb, ltb}
use lib.ListN.{length}
use borrow.Author.Tests.{lt-ltb, eq-eqb, ne_eqb, eqb-true, eqb-false, not-true}
use Rattle.protocol.specs.Lists.{any}
use Rattle.protocol.specs.Statement.{Stmt, payload_of}
use Rattle.protocol.specs.Evidence.{prepares, is_prepared, two_prepares, Prepare, Prepared}
use Rattle.protocol.proofs.Says.{Says, from-true, says_map, says-unique, says-self, says-and, says-or, says-not, says-eqb}
use Rattle.protocol.proofs.Decided.{says-prepares, says-prepared, says-two_prepares}
use Rattle.views.proofs.Views.{passes, fails}
use Rattle.pool.specs.Pool.{payload_from, word, stmt_at, record_up_to}
use Rattle.pool.proofs.Records.{entry, none_first, any_next, whole}
use Rattle.tables.specs.Index.{newest_at, key_at, SlotsCleared, RowLinked, RowKeyed, Chained, LatestOf, Walks, Leads, Finds}
use Rattle.tables.proofs.Chains.{chained-first, chained_same, chained-new}
use Rattle.evidence.specs.Shown.{prepares_it, prepares_one, some_below, listed, twofold, PrepareAdded, Linked, PreparedList}
use Rattle.evidence.proofs.Senders.{notice-small, payload-plain}

-- ---- one statement

pub prepares-payload : (senders : List ℕ) (i m p : ℕ) (W : List ℕ) (n : ℕ) (r : Bool) → r ≡ prepares senders i (stmt_at W n) → r ≡ true → p ≡ word W n payload_from → eqb p m ≡ prepares_it senders i m (stmt_at W n)
unfolding prepares_it
prepares-payload senders i m p W n r e f g =
    let six : (stmt_at W n).kind ≡ 6 = ((says-prepares senders i (stmt_at W n)).sound (from-true (sym e ∙ f))).kind in
    ap (λ x. eqb x m) (g ∙ payload-plain W n (λ q. omega arith)) ∙ sym (ap (λ b. b && eqb (payload_of (stmt_at W n)) m) (sym e ∙ f))

module _ (senders : List ℕ) (s : Stmt) where
  -- a prepare of some notice, and of notice j

  one_of : (j : ℕ) → j < length senders → Prepare senders j (payload_of s) s → prepares_one senders s ≡ true
  unfolding prepares_one
  one_of j l p = ap₂ ◌&&◌ (lt-ltb s.notice (length senders) (omega (arith, p.notice)))
      (passes (says-prepares senders s.notice s) (subst (λ i. Prepare senders i (payload_of s) s) (sym p.notice) p))

  pub one-not : prepares_one senders s ≡ false → (j : ℕ) → j < length senders → prepares senders j s ≡ false
  one-not e j l = fails (says-prepares senders j s) (λ p. subst T (sym (one_of j l p) ∙ e) tt)

  one-prepare : prepares_one senders s ≡ true → Prepare senders s.notice (payload_of s) s
  unfolding prepares_one
  one-prepare e = ((says-and (says-self (ltb s.notice (length senders))) (says-prepares senders s.notice s)).sound (from-true e)).1

  pub one-is : prepares_one senders s ≡ true → (j : ℕ) → prepares senders j s ≡ eqb s.notice j
  one-is e j = says-unique (says-prepares senders j s) (says_map (λ q. subst (λ i. Prepare senders i (payload_of s) s) q (one-prepare e)) (λ p. p.notice) (says-eqb {m = s.notice} {n = j}))

  pub one-kind : prepares_one senders s ≡ true → s.kind ≡ 6
  one-kind e = (one-prepare e).kind

-- ---- numbers below n

module _ {p : ℕ → Bool} {P : ℕ → Type 0} (f : (c : ℕ) → Says (p c) (P c)) where
  some-suc : (n : ℕ) → Says (some_below n p) ((c : ℕ) × (c < n) × P c) → Says (some_below n p || p n) ((c : ℕ) × (c < suc n) × P c)
  some-suc n h = says_map to from (says-or h (f n))
    where
      to : ((c : ℕ) × (c < n) × P c) ⊎ P n → (c : ℕ) × (c < suc n) × P c
      to (inl (c, l, q)) = (c, omega arith, q)
      to (inr q) = (n, omega arith, q)

      from : (c : ℕ) × (c < suc n) × P c → ((c : ℕ) × (c < n) × P c) ⊎ P n
      from (c, l, q) = elim (ℕ_discrete c n) [ yes e ↦ inr (subst P e q) | no d ↦ inl (c, omega arith, q) ]

  says_some : (n : ℕ) → Says (some_below n p) ((c : ℕ) × (c < n) × P c)
  unfolding some_below
  says_some zero = record { sound = λ t. absurd t; complete = λ (c, l, q). absurd (omega arith) }
  says_some (suc n) = some-suc n (says_some n)

some-cong : (n : ℕ) (p q : ℕ → Bool) → ((c : ℕ) → c < n → p c ≡ q c) → some_below n p ≡ some_below n q
unfolding some_below
some-cong zero p q f = refl
some-cong (suc n) p q f = ap₂ ◌||◌ (some-cong n p q (λ c l. f c (omega arith))) (f n (omega arith))

-- ---- the list, as it is written

-- row c is of notice j and has the payload m
abbrev pub Row : List ℕ → ℕ → ℕ → ℕ → Type 0
Row K j m c = (key_at K 1 c ≡ j) × (key_at K 0 c ≡ m)

says-listed : (K : List ℕ) (n j m : ℕ) → Says (listed K n j m) ((c : ℕ) × (c < n) × Row K j m c)
unfolding listed
says-listed K n j m = says_some (λ c. says-and (says-eqb {m = key_at K 1 c} {n = j}) (says-eqb {m = key_at K 0 c} {n = m})) n

pub prepare-added : (W : List ℕ) (s : ℕ) {n m j w : ℕ} {K K₁ K₂ R R' : List ℕ} → n < 512 → RowKeyed K 0 n m K₁ → RowKeyed K₁ 1 n w K₂ → RowLinked R 0 j n R'
    → m ≡ word W s payload_from → w ≡ j → j ≡ (stmt_at W s).notice → PrepareAdded (stmt_at W s) n K R K₂ R'
prepare-added W s {n} {m} {j} {w} {K} {K₁} {K₂} {R} {R'} l a b put p q e = record {
  payload = λ d. (b.others 0 (omega arith) (λ z. omega arith)).key n l ∙ a.here ∙ p ∙ payload-plain W s d;
  notice = b.here ∙ q ∙ e;
  payloads = λ c h. (b.others 0 (omega arith) (λ z. omega arith)).key c (omega arith) ∙ a.keys c (omega arith) (λ z. omega arith);
  notices = λ c h. b.keys c (omega arith) (λ z. omega arith) ∙ (a.others 1 (omega arith) (λ z. omega arith)).key c (omega arith);
  linked = subst (λ j. RowLinked R 0 j n R') e put;
}

module _ {s : Stmt} {n : ℕ} {K R K' R' : List ℕ} (added : PrepareAdded s n K R K' R') where
  listed_more : (s.kind ≡ 5 → ⊥) → (j m : ℕ) → listed K' (n + 1) j m ≡ (listed K n j m || (eqb s.notice j && eqb (payload_of s) m))
  unfolding listed some_below
  listed_more d j m =
      ap (λ k. some_below k (λ c. eqb (key_at K' 1 c) j && eqb (key_at K' 0 c) m)) (add-one n)
      ∙ ap₂ ◌||◌ (some-cong n (λ c. eqb (key_at K' 1 c) j && eqb (key_at K' 0 c) m) (λ c. eqb (key_at K 1 c) j && eqb (key_at K 0 c) m)
      (λ c l. ap₂ (λ a b. eqb a j && eqb b m) (added.notices c l) (added.payloads c l))) (ap₂ (λ a b. eqb a j && eqb b m) added.notice (added.payload d))

  linked-more : n < 512 → s.notice < 256 → Chained (key_at K 1) R 0 n → Chained (key_at K' 1) R' 0 (n + 1)
  linked-more l h w = chained-new l h added.notice added.linked (chained_same added.notices w)

module _ (W ids senders : List ℕ) where
  abbrev its : ℕ → ℕ → Stmt → Bool
  its j m s = prepares senders j s && eqb (payload_of s) m

  -- the n rows are what the senders prepared before i
  pub record ListedTo (K R : List ℕ) (n i : ℕ) : Type 0 where
    pub most : n ≤ i
    pub chained : Chained (key_at K 1) R 0 n
    pub are : (j m : ℕ) → j < length senders → any (its j m) (record_up_to W ids i) ≡ listed K n j m

  listed-zero : (K : List ℕ) (j m : ℕ) → listed K 0 j m ≡ false
  unfolding listed some_below
  listed-zero K j m = refl

  pub list-first : {K R R' : List ℕ} → SlotsCleared R 0 R' → ListedTo K R' 0 0
  list-first {K} cleared = record { most = omega arith; chained = chained-first cleared.empty; are = λ j m l. none_first W ids (its j m) ∙ sym (listed-zero K j m) }

  module _ {K R : List ℕ} {n i : ℕ} (r : Bool) (l : i < 512) (asked : r ≡ prepares_one senders (entry W ids i)) (w : ListedTo K R n i) where
    pub list-skip : r ≡ false → ListedTo K R n (i + 1)
    list-skip f = record {
      most = omega (arith, w.most);
      chained = w.chained;
      are = λ j m h. any_next W ids (its j m) i l ∙ ap₂ (λ a b. a || b && eqb (payload_of (entry W ids i)) m) (w.are j m h) (one-not senders (entry W ids i) (sym asked ∙ f) j h) ∙ or-false (listed K n j m);
    }

    pub list-more : {K' R' : List ℕ} → r ≡ true → PrepareAdded (entry W ids i) n K R K' R' → ListedTo K' R' (n + 1) (i + 1)
    list-more f added = record {
      most = omega (arith, w.most);
      chained = linked-more added (omega (arith, w.most)) (notice-small W _) w.chained;
      are = λ j m h. any_next W ids (its j m) i l
          ∙ ap₂ (λ a b. a || b && eqb (payload_of (entry W ids i)) m) (w.are j m h) (one-is senders (entry W ids i) (sym asked ∙ f) j)
          ∙ sym (listed_more added (λ q. omega (arith, one-kind senders (entry W ids i) (sym asked ∙ f))) j m);
    }

  pub list-whole : (len : ℕ) {K R : List ℕ} {n i : ℕ} → i ≡ min len 512 → ListedTo K R n i → PreparedList senders (record_up_to W ids len) K R n
  unfolding is_prepared
  list-whole len e w = record {
    linked = record { few = omega (arith, w.most); chained = w.chained };
    are = λ j m l. ap (any (its j m)) (sym (whole W ids len _ e)) ∙ w.are j m l;
  }

-- ---- the list, as it is asked

module _ {K R : List ℕ} {n j : ℕ} (ok : Linked K R n) (small : j < 256) {x : Option ℕ} (newest : x ≡ newest_at R 0 j) where
  -- the index leads down the rows of notice j
  pub walks : Walks (key_at K 1) R 0 j n x
  walks = record { rows = n; few = ok.few; chained = ok.chained; most = omega arith; newest = rw newest (ok.chained.slots j small) }

  pub leads : Leads R 0 x
  leads = record { at = key_at K 1; slot = j; below = n; walks = walks }

  pub listed-found : (m : ℕ) {r : Option ℕ} → Finds R 0 x (λ c. eqb (key_at K 0 c) m) r → is_some r ≡ listed K n j m
  listed-found m {r} found = go r (found.newest _ _ _ walks)
    where
      go : (r : Option ℕ) → LatestOf (λ c. (key_at K 1 c ≡ j) × (eqb (key_at K 0 c) m ≡ true)) n r → is_some r ≡ listed K n j m
      go None f = sym (fails (says-listed K n j m) (λ (c, l, (a, b)). let (k, e, _) = f.all c l (a, eq-eqb _ _ b) in absurd (cc)))
      go (Some c) f = let (l, (a, b)) = f.here c refl in sym (passes (says-listed K n j m) (c, l, (a, eqb-true _ _ b)))

abbrev Two : List ℕ → ℕ → ℕ → Type 0
Two K n j = (c : ℕ) × (c < n) × ((d : ℕ) × (d < n) × (((key_at K 1 c ≡ j) × (key_at K 1 d ≡ j)) × (key_at K 0 c ≢ key_at K 0 d)))

says-twofold : (K : List ℕ) (n j : ℕ) → Says (twofold K n j) (Two K n j)
unfolding twofold
says-twofold K n j = says_some (λ c. says_some (λ d. says-and (says-and (says-eqb {m = key_at K 1 c} {n = j}) (says-eqb {m = key_at K 1 d} {n = j})) (says-not (says-eqb {m = key_at K 0 c} {n = key_at K 0 d}))) n) n

module _ {K R : List ℕ} {n j : ℕ} (ok : Linked K R n) (small : j < 256) {x : Option ℕ} (newest : x ≡ newest_at R 0 j) where
  pub twofold-empty : x ≡ None → false ≡ twofold K n j
  twofold-empty z = sym (fails (says-twofold K n j) (λ (c, l, (d, h, ((a, b), e))). let (k, q, _) = (walks ok small newest).newest.all c l a in absurd (cc)))

  -- the newest row
  module _ (y : ℕ) (here : x ≡ Some y) where
    pub row : (y < n) × (key_at K 1 y ≡ j)
    row = (walks ok small newest).newest.here y here

    -- m is its payload
    pub twofold-found : (m : ℕ) {r : Option ℕ} → m ≡ key_at K 0 y → Finds R 0 x (λ c. not (eqb (key_at K 0 c) m)) r → is_some r ≡ twofold K n j
    twofold-found m {r} is found = go r (found.newest _ _ _ (walks ok small newest))
      where
        other : (c : ℕ) → (key_at K 0 c ≡ m → ⊥) → not (eqb (key_at K 0 c) m) ≡ true
        other c d = ap not (ne_eqb _ _ d)

        go : (r : Option ℕ) → LatestOf (λ c. (key_at K 1 c ≡ j) × (not (eqb (key_at K 0 c) m) ≡ true)) n r → is_some r ≡ twofold K n j
        go None f = sym (fails (says-twofold K n j) (λ (c, h, (d, k, ((a, b), e))). elim (ℕ_discrete (key_at K 0 c) m) [
          | yes q ↦ (let (_, p, _) = f.all d k (b, other d (λ z. e (q ∙ sym z))) in absurd (cc))
          | no q ↦ (let (_, p, _) = f.all c h (a, other c q) in absurd (cc))
        ]))
        go (Some c) f =
            let (l, (a, b)) = f.here c refl in
            sym (passes (says-twofold K n j) (c, l, (y, row.0, ((a, row.1), λ q. eqb-false _ _ (not-true _ b) (q ∙ sym is)))))

-- ---- two payloads that the sender of notice j prepared

module _ {senders : List ℕ} {X : List Stmt} {K R : List ℕ} {n : ℕ} (ok : PreparedList senders X K R n) (j : ℕ) (l : j < length senders) where
  prepared-at : (c : ℕ) → c < n → key_at K 1 c ≡ j → Prepared senders X j (key_at K 0 c)
  prepared-at c h e = (says-prepared senders X j (key_at K 0 c)).sound (subst T (sym (ok.are j (key_at K 0 c) l)) ((says-listed K n j (key_at K 0 c)).complete (c, h, (e, refl))))

  place : {m : ℕ} → Prepared senders X j m → (c : ℕ) × (c < n) × Row K j m c
  place {m} p = (says-listed K n j m).sound (subst T (ok.are j m l) ((says-prepared senders X j m).complete p))

  pub twofold-is : twofold K n j ≡ two_prepares senders X j
  twofold-is = says-unique (says_map to from (says-twofold K n j)) (says-two_prepares senders X j)
    where
      to : Two K n j → (m m' : ℕ) × (m ≢ m') × Prepared senders X j m × Prepared senders X j m'
      to (c, h, (d, k, ((a, b), e))) = (key_at K 0 c, key_at K 0 d, e, prepared-at c h a, prepared-at d k b)

      from : (m m' : ℕ) × (m ≢ m') × Prepared senders X j m × Prepared senders X j m' → Two K n j
      from (m, m', e, p, q) =
          let (c, h, (a, u)) = place p in
          let (d, k, (b, v)) = place q in
          (c, h, (d, k, ((a, b), λ z. e (sym u ∙ z ∙ v))))
