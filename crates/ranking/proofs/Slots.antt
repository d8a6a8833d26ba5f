-- Laws of the slots, by any scale: each is what one step of a function of candidates or of histories needs.
-- Assumes nothing.
use Rattle.std.specs.Prelude.{if◌then◌else◌}
use Rattle.std.specs.Prelude.{Option, Some, is_some, unwrap_or}
use mathlib.Core.Path.{◌≡◌, refl, sym, ap, ap₂, subst, ◌∙◌}
use mathlib.Core.Logic.{◌≢◌, ◌⊎◌, inl, inr}
use mathlib.Core.Bool.{Bool, true, false, not}
use mathlib.Core.List.Memᴰ
use mathlib.Core.List.{List, [], ◌∷◌, ◌++◌, append-nil}
use Prim.Native.Nat.{ℕ, zero, suc, ◌+◌, ◌≤◌, ◌<◌}
use native.Mathlib.Decide.{dec_lt, ℕ_discrete}
use native.Mathlib.Numerals.{add-one}
use native.Mathlib.Omega.{arith}
use lib.Dec.{T, ltb}
use lib.ListN.{length, get_or, set, replicate, length-set, length-append, length-replicate, get_or-replicate}
use lib.Seq.{get_or-set_same, get_or-set_other}
use borrow.Author.Tests.{eq-eqb, ne_eqb, lt-ltb}
use Rattle.protocol.specs.Sets.{bit}
use Rattle.protocol.specs.Lists.{◌∈◌, ◌⊆◌, list_of}
use Rattle.protocol.specs.View.{View, size, Within}
use Rattle.protocol.proofs.Counting.{count-mono}
use Rattle.protocol.proofs.Numbered.{list_of-length, list_of-cong}
use Rattle.protocol.proofs.Different.{ordered-append}
use Rattle.views.specs.View.{view_of, views_of}
use Rattle.ranking.specs.Slots.{Scale, view_scale, Stands, Slots, Filled, here, occupied, Broken, Chain, Compared, Listed}
use Rattle.ranking.proofs.Members.{in_left, in_right, Climbs}

-- ---- sizes

pub within-size : {u v : View} → Within 16 u v → size 16 u ≤ size 16 v
unfolding size
within-size {u} {v} w = omega (arith, count-mono 16 (bit u.joined) (bit v.joined) w.joined, count-mono 16 (bit u.left) (bit v.left) w.left)

pub same-within : (u : View) → Within 16 u u
same-within u = record { joined = λ k l t. t; left = λ k l t. t }

-- ---- filling

module _ (Q : Scale) where
  open Q use {Thing, thing, slots, Under}

  abbrev key : ℕ → ℕ
  key v = Q.size (thing v)

  module _ (base : ℕ) (F : ℕ → ℕ) (M : ℕ → Bool) where
    later : (c : ℕ) {v : ℕ} → Stands Q base F M c v → Stands Q base F M (c + 1) v
    later c (inl e) = inl e
    later c (inr (a, l, m, e)) = inr (a, omega arith, m, e)

    -- what stands with one more stood before, or is that one
    split : (c : ℕ) {v : ℕ} → Stands Q base F M (c + 1) v → Stands Q base F M c v ⊎ ((M c ≡ true) × (F c ≡ v))
    split c (inl e) = inl (inl e)
    split c {v} (inr (a, l, m, e)) = elim (dec_lt a c) [
      | yes h ↦ inl (inr (a, h, m, e))
      | no h ↦ (let q : a ≡ c = omega arith in inr (subst (λ a. (M a ≡ true) × (F a ≡ v)) q (m, e)))
    ]

    pub slots-first : key base < slots → Slots Q base F M 0 (replicate slots base)
    slots-first h = record { long = length-replicate slots base; sound = λ k l. inl (get_or-replicate slots k base 0 l); complete = only }
      where
        only : (v : ℕ) → Stands Q base F M 0 v → thing (get_or (replicate slots base) (key v) 0) ≡ thing v
        only v (inl e) = ap thing (get_or-replicate slots (key v) base 0 (subst (λ v. key v < slots) (sym e) h) ∙ sym e)
        only v (inr (a, l, _, _)) = absurd (omega arith)

    pub slots-skip : (c : ℕ) {S : List ℕ} → (M c ≡ true → ⊥) → Slots Q base F M c S → Slots Q base F M (c + 1) S
    slots-skip c {S} n s = record { long = s.long; sound = λ k l. later c (s.sound k l); complete = λ v t. go v (split c t) }
      where
        go : (v : ℕ) → Stands Q base F M c v ⊎ ((M c ≡ true) × (F c ≡ v)) → thing (get_or S (key v) 0) ≡ thing v
        go v (inl t) = s.complete v t
        go v (inr (m, _)) = absurd (n m)

    -- the marked word c is v, and u is in the slot of its size
    module _ (c : ℕ) {S : List ℕ} (k u v : ℕ) (marked : M c ≡ true) (is : v ≡ F c) (sized : k ≡ key v) (slot : u ≡ get_or S k 0) where
      pub slots_same : thing u ≡ thing v → Slots Q base F M c S → Slots Q base F M (c + 1) S
      slots_same e s = record { long = s.long; sound = λ j l. later c (s.sound j l); complete = λ w t. go w (split c t) }
        where
          go : (w : ℕ) → Stands Q base F M c w ⊎ ((M c ≡ true) × (F c ≡ w)) → thing (get_or S (key w) 0) ≡ thing w
          go w (inl t) = s.complete w t
          go w (inr (m, f)) =
              let q : w ≡ v = sym f ∙ sym is in
              subst (λ x. thing (get_or S (key x) 0) ≡ thing x) (sym q) (ap (λ j. thing (get_or S j 0)) (sym sized) ∙ ap thing (sym slot) ∙ e)

      pub slots-put : k < slots → (key u ≡ k → ⊥) → Slots Q base F M c S → Slots Q base F M (c + 1) (set S k v)
      slots-put small free s = record { long = length-set S k v ∙ s.long; sound = sound; complete = λ w t. go w (split c t) }
        where
          sound : (j : ℕ) → j < slots → Stands Q base F M (c + 1) (get_or (set S k v) j 0)
          sound j l = elim (ℕ_discrete j k) [
            | yes e ↦ inr (c, omega arith, marked, sym is ∙ sym (ap (λ i. get_or (set S k v) i 0) e ∙ get_or-set_same S k v 0 (omega (arith, s.long))))
            | no n ↦ subst (Stands Q base F M (c + 1)) (sym (get_or-set_other S k j v 0 n)) (later c (s.sound j l))
          ]

          -- what was in the slot of its size before is not in this one
          before : (w : ℕ) → thing (get_or S (key w) 0) ≡ thing w → key w ≢ k
          before w f e = free (ap (λ x. key x) (slot ∙ ap (λ j. get_or S j 0) (sym e)) ∙ ap Q.size f ∙ e)

          go : (w : ℕ) → Stands Q base F M c w ⊎ ((M c ≡ true) × (F c ≡ w)) → thing (get_or (set S k v) (key w) 0) ≡ thing w
          go w (inl t) = let f = s.complete w t in ap thing (get_or-set_other S k (key w) v 0 (before w f)) ∙ f
          go w (inr (m, f)) =
              let q : w ≡ v = sym f ∙ sym is in
              ap thing (ap (λ j. get_or (set S k v) j 0) (ap key q ∙ sym sized) ∙ get_or-set_same S k v 0 (omega (arith, s.long)) ∙ sym q)

      pub slots-clash : (n : ℕ) → c < n → k < slots → (thing u ≡ thing v → ⊥) → key u ≡ k → Slots Q base F M c S → Filled Q base F M n S false
      slots-clash n l small d e s = record {
        good = λ h. absurd (subst (λ b. T (not b)) h tt);
        bad = λ h. record {
          one = u;
          other = v;
          stands = widen (subst (Stands Q base F M c) (sym slot) (s.sound k small));
          besides = inr (c, l, marked, sym is);
          differ = d;
          level = e ∙ sized;
        };
      }
        where
          widen : {w : ℕ} → Stands Q base F M c w → Stands Q base F M n w
          widen (inl e) = inl e
          widen (inr (a, m, h, e)) = inr (a, omega arith, h, e)

    pub slots-done : (c n : ℕ) {S : List ℕ} → c ≡ n → Slots Q base F M c S → Filled Q base F M n S true
    slots-done c n {S} e s = record { good = λ h. subst (λ n. Slots Q base F M n S) e s; bad = λ h. absurd (subst T h tt) }

  -- ---- what is in the slots

  module _ (S : List ℕ) where
    abbrev at : ℕ → Thing
    at k = thing (get_or S k 0)

    abbrev below : ℕ → List Thing
    below k = occupied Q S k

    pub here-none : (k : ℕ) → (Q.size (at k) ≡ k → ⊥) → below (suc k) ≡ below k
    unfolding occupied here
    here-none k n = ap (λ b. below k ++ (if b then at k ∷ [] else [])) (ne_eqb _ _ n) ∙ append-nil (below k)

    pub here-one : (k : ℕ) → Q.size (at k) ≡ k → below (suc k) ≡ below k ++ (at k ∷ [])
    unfolding occupied here
    here-one k e = ap (λ b. below k ++ (if b then at k ∷ [] else [])) (eq-eqb _ _ e)

    occupied-later : (k : ℕ) → below k ⊆ below (suc k)
    unfolding occupied
    occupied-later k v i = in_left (below k) (here Q S k) i

    occupied-last : (k : ℕ) → Q.size (at k) ≡ k → at k ∈ below (suc k)
    occupied-last k e = subst (λ l. at k ∈ l) (sym (here-one k e)) (in_right (below k) (at k ∷ []) (Memᴰ.head refl))

    pub occupied-in : (k j : ℕ) → j < k → Q.size (at j) ≡ j → at j ∈ below k
    occupied-in zero j l e = absurd (omega arith)
    occupied-in (suc k) j l e = elim (dec_lt j k) [
      | yes h ↦ occupied-later k _ (occupied-in k j h e)
      | no h ↦ (let q : j ≡ k = omega arith in subst (λ x. at x ∈ below (suc k)) (sym q) (occupied-last k (subst (λ x. Q.size (at x) ≡ x) q e)))
    ]

    pub occupied-out : (k : ℕ) {v : Thing} → v ∈ below k → (j : ℕ) × (j < k) × (Q.size (at j) ≡ j) × (at j ≡ v)
    unfolding occupied
    occupied-out zero m = absurd (Memᴰ.not-nil m)
    occupied-out (suc k) {v} m = elim (ℕ_discrete (Q.size (at k)) k) [
      | yes e ↦ elim (Memᴰ.append_cases (below k) (subst (λ l. v ∈ l) (here-one k e) m)) [
        | inl i ↦ (let (j, l, f, g) = occupied-out k i in (j, omega arith, f, g))
        | inr i ↦ (k, omega arith, e, sym (Memᴰ.eq_of_singleton i))
      ]
      | no n ↦ (let (j, l, f, g) = occupied-out k (subst (λ l. v ∈ l) (here-none k n) m) in (j, omega arith, f, g))
    ]

    pub occupied-size : (k : ℕ) {v : Thing} → v ∈ below k → Q.size v < k
    occupied-size k m = let (j, l, e, f) = occupied-out k m in omega (arith, ap Q.size f)

    pub occupied-wide : (j k : ℕ) → j ≤ k → below j ⊆ below k
    occupied-wide j k l v m = let (i, h, e, f) = occupied-out j m in subst (λ v. v ∈ below k) f (occupied-in k i (omega arith) e)

    pub occupied-climbs : (k : ℕ) → Climbs Q.size (below k)
    unfolding occupied
    occupied-climbs zero = tt
    occupied-climbs (suc k) = elim (ℕ_discrete (Q.size (at k)) k) [
      | yes e ↦ subst (Climbs Q.size) (sym (here-one k e)) (ordered-append (λ a b. Q.size a < Q.size b) (below k) (at k) (occupied-climbs k) (λ b m. omega (arith, occupied-size k m, e)))
      | no n ↦ subst (Climbs Q.size) (sym (here-none k n)) (occupied-climbs k)
    ]

    longer : (k : ℕ) → length (below k) ≤ length (below (suc k))
    unfolding occupied
    longer k = omega (arith, length-append (below k) (here Q S k))

    pub occupied-more : (j k : ℕ) → j ≤ k → length (below j) ≤ length (below k)
    occupied-more j zero l = let e : j ≡ 0 = omega arith in subst (λ x. length (below x) ≤ length (below 0)) (sym e) (omega arith)
    occupied-more j (suc k) l = elim (dec_lt k j) [
      | yes h ↦ (let e : j ≡ suc k = omega arith in subst (λ x. length (below x) ≤ length (below (suc k))) (sym e) (omega arith))
      | no h ↦ omega (arith, occupied-more j k (omega arith), longer k)
    ]

    -- ---- a chain

    pub chain_first : (last : ℕ) → Chain Q S 0 false last
    unfolding occupied
    chain_first last = record { pairs = λ u m v i. absurd (Memᴰ.not-nil m); under = λ u m. absurd (Memᴰ.not-nil m); ends = λ e. absurd (subst (λ b. T (not b)) e tt) }

    pub chain-skip : (k last v n : ℕ) (some : Bool) → v ≡ get_or S k 0 → n ≡ key v → (n ≡ k → ⊥) → Chain Q S k some last → Chain Q S (k + 1) some last
    chain-skip k last v n some is e d c = rw add-one (
        let q : below (suc k) ≡ below k = here-none k (λ h. d (e ∙ ap key is ∙ h)) in record {
          pairs = λ u m v i. c.pairs u (subst (λ l. u ∈ l) q m) v (subst (λ l. v ∈ l) q i);
          under = λ u m. c.under u (subst (λ l. u ∈ l) q m);
          ends = λ t. subst (λ l. thing last ∈ l) (sym q) (c.ends t);
        })

    module _ (k last v n : ℕ) (some : Bool) (is : v ≡ get_or S k 0) (sized : n ≡ key v) (there : n ≡ k) (c : Chain Q S k some last) where
      level : Q.size (at k) ≡ k
      level = ap key (sym is) ∙ sym sized ∙ there

      stands : (j : ℕ) → k < j → thing v ∈ below j
      stands j l = subst (λ x. thing x ∈ below j) (sym is) (occupied-in j k l level)

      -- v is one more, over all before it
      put : ((u : Thing) → Under u u) → ((u : Thing) → u ∈ below k → Under u (thing v)) → Chain Q S (k + 1) true v
      put same over = rw add-one record {
        pairs = λ u m x i. both u (cut m) x (cut i);
        under = λ u m. (refl, top u (cut m));
        ends = λ t. stands (suc k) (omega arith);
      }
        where
          cut : {u : Thing} → u ∈ below (suc k) → (u ∈ below k) ⊎ (u ≡ thing v)
          cut {u} m = elim (Memᴰ.append_cases (below k) (subst (λ l. u ∈ l) (here-one k level) m)) [ inl i ↦ inl i | inr i ↦ inr (Memᴰ.eq_of_singleton i ∙ ap thing (sym is)) ]

          top : (u : Thing) → (u ∈ below k) ⊎ (u ≡ thing v) → Under u (thing v)
          top u (inl i) = over u i
          top u (inr e) = subst (λ u. Under u (thing v)) (sym e) (same (thing v))

          both : (u : Thing) → (u ∈ below k) ⊎ (u ≡ thing v) → (x : Thing) → (x ∈ below k) ⊎ (x ≡ thing v) → Under u x ⊎ Under x u
          both u (inl i) x (inl j) = c.pairs u i x j
          both u i x (inr e) = inl (subst (Under u) (sym e) (top u i))
          both u (inr e) x (inl j) = inr (subst (Under x) (sym e) (top x (inl j)))

      pub chain-start : ((u : Thing) → Under u u) → some ≡ false → Chain Q S (k + 1) true v
      chain-start same f = put same (λ u m. absurd (subst T (sym (c.under u m).0 ∙ f) tt))

      pub chain_more : ((u : Thing) → Under u u) → ((u x y : Thing) → Under u x → Under x y → Under u y) → some ≡ true → Under (thing last) (thing v) → Chain Q S (k + 1) some v
      chain_more same trans t step = subst (λ b. Chain Q S (k + 1) b v) (sym t) (put same (λ u m. trans u _ _ (c.under u m).1 step))

      pub chain-stop : k < slots → some ≡ true → (Under (thing last) (thing v) → ⊥) → Broken Q S slots
      chain-stop l t n = record {
        lower = thing last;
        upper = thing v;
        lower_in = occupied-wide k slots (omega arith) _ (c.ends t);
        upper_in = stands slots l;
        less = omega (arith, occupied-size k (c.ends t), sized);
        apart = n;
      }

-- one word more
pub views-put : (a : List ℕ) (n v : ℕ) → n < length a → views_of (set a n v) (suc n) ≡ views_of a n ++ (view_of v ∷ [])
unfolding views_of list_of
views-put a n v l =
    ap₂ (λ l x. l ++ (view_of x ∷ []))
    (list_of-cong n (λ i. view_of (get_or (set a n v) i 0)) (λ i. view_of (get_or a i 0)) (λ i h. ap view_of (get_or-set_other a n i v 0 (λ q. omega arith))))
    (get_or-set_same a n v 0 l)

module _ (S : List ℕ) where
  abbrev shown : ℕ → List View
  shown k = occupied view_scale S k

  -- ---- comparing

  pub compared-stop : (b : Bool) → b ≡ false → Broken view_scale S 33 → Compared S b
  compared-stop b e c = record { good = λ t. absurd (subst T (sym t ∙ e) tt); bad = λ f. c }

  pub compared-end : (k last : ℕ) (some : Bool) → k ≡ 33 → Chain view_scale S k some last → Compared S true
  compared-end k last some e c = record { good = λ t. (subst (λ k. Chain view_scale S k some last) e c).pairs; bad = λ f. absurd (subst T f tt) }

  -- ---- listing

  -- `out` has the n views below k
  pub record ListedTo (out : List ℕ) (n k : ℕ) : Type 0 where
    pub long : length out ≡ 16
    pub views : views_of out n ≡ shown k

  pub listed-first : (out : List ℕ) → length out ≡ 16 → ListedTo out 0 0
  unfolding views_of occupied list_of
  listed-first out l = record { long = l; views = refl }

  pub listed-skip : (out : List ℕ) (n k v m : ℕ) → v ≡ get_or S k 0 → m ≡ size 16 (view_of v) → (m ≡ k → ⊥) → ListedTo out n k → ListedTo out n (k + 1)
  listed-skip out n k v m is e d c = record { long = c.long; views = rw add-one (c.views ∙ sym (here-none view_scale S k (λ h. d (e ∙ ap (λ x. size 16 (view_of x)) is ∙ h)))) }

  listed-length : {out : List ℕ} {n k : ℕ} → ListedTo out n k → length (shown k) ≡ n
  unfolding views_of
  listed-length {out} {n} c = ap length (sym c.views) ∙ list_of-length n (λ i. view_of (get_or out i 0))

  module _ (out : List ℕ) (n k v m : ℕ) (is : v ≡ get_or S k 0) (sized : m ≡ size 16 (view_of v)) (there : m ≡ k) (c : ListedTo out n k) where
    slot-level : size 16 (view_of (get_or S k 0)) ≡ k
    slot-level = ap (λ x. size 16 (view_of x)) (sym is) ∙ sym sized ∙ there

    pub listed_more : n < 16 → ListedTo (set out n v) (n + 1) (k + 1)
    listed_more l = record {
      long = length-set out n v ∙ c.long;
      views = rw (add-one, add-one) (
          views-put out n v (omega (arith, c.long)) ∙ ap₂ (λ l x. l ++ (view_of x ∷ [])) c.views is ∙ sym (here-one view_scale S k slot-level));
    }

    pub listed-many : n ≡ 16 → k < 33 → Listed S out 17
    listed-many e l = record {
      many = sym (lt-ltb 16 (length (shown 33))
          (omega (arith, occupied-more view_scale S (suc k) 33 (omega arith), ap length (here-one view_scale S k slot-level), length-append (shown k) (view_of (get_or S k 0) ∷ []), listed-length c)));
      views = λ h. absurd (omega arith);
    }

  pub listed-end : (out : List ℕ) (n k : ℕ) → k ≡ 33 → ListedTo out n k → Listed S out n
  listed-end out n k e c = record {
    many = ap (ltb 16) (sym (listed-length c) ∙ ap (λ k. length (shown k)) e);
    views = λ h. c.views ∙ ap shown e;
  }

-- where the last of the chain is m, the one of slot k goes on it
pub chain_on : (Q : Scale) {S : List ℕ} {k z m : ℕ} {last : Option ℕ} → last ≡ Some m → z ≡ Q.size (Q.thing (get_or S k 0)) → z ≡ k → Chain Q S k (is_some last) (unwrap_or last 0) → ((u : Q.Thing) → Q.Under u u)
    → ((u x y : Q.Thing) → Q.Under u x → Q.Under x y → Q.Under u y) → Q.Under (Q.thing m) (Q.thing (get_or S k 0)) → Chain Q S (k + 1) true (get_or S k 0)
chain_on Q {S} {k} e sized here c same trans step =
    subst (λ b. Chain Q S (k + 1) b (get_or S k 0)) (ap is_some e)
    (chain_more Q _ _ _ _ _ _ refl sized here c same trans (ap is_some e) (subst (λ u. Q.Under (Q.thing (unwrap_or u 0)) (Q.thing (get_or S k 0))) (sym e) step))
