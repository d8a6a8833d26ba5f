-- The sets of signers, and the least sealed top that has a quorum.
-- Assumes nothing.
use Rattle.std.specs.Prelude.{if◌then◌else◌}
use mathlib.Core.Path.{◌≡◌, refl, sym, ap, subst, ◌∙◌}
use mathlib.Core.Logic.{◌⊎◌, inl, inr}
use mathlib.Core.Bool.{Bool, true, false, ◌&&◌}
use mathlib.Core.List.Memᴰ
use mathlib.Core.List.{List, [], ◌∷◌, map}
use mathlib.Core.Option.{Option, some, none}
use Prim.Native.Nat.{ℕ, ◌≤◌, ◌<◌}
use native.Mathlib.Decide.{dec_lt}
use native.Mathlib.Omega.{arith}
use lib.Dec.{T, leb}
use lib.ListN.{length}
use borrow.Author.Tests.{lt-ltb}
use Rattle.protocol.specs.Sets.{bit, count}
use Rattle.protocol.specs.Lists.{◌∈◌, filter}
use Rattle.protocol.specs.View.{View, Ring, member, quorum, member_count, has_members}
use Rattle.protocol.specs.History.{top}
use Rattle.protocol.specs.Statement.{Stmt, Store, Signed, acks, stores}
use Rattle.protocol.specs.Evidence.{signs, Quorum, signed_by_quorum, Sealed, sealed_histories, is_prepared, Prepared, Certificate}
use Rattle.protocol.specs.Signers.{signers, makes_quorum, WhoSigned, written_before, lesser, least_written, set_at, least_top, set_behind, store_set, ack_set, LeastTop, Behind, AckSetIs}
use Rattle.protocol.proofs.Counting.{count-mono}
use Rattle.protocol.proofs.Bits.{bit-set_of}
use Rattle.protocol.proofs.Says.{Says, says_map, says-and, says-or, says-not, says-eqb, says-leb}
use Rattle.protocol.proofs.Count.{stops}
use Rattle.protocol.proofs.Found.{filter-out, filter-in, none≢some, some-injective}
use Rattle.protocol.proofs.Decided.{says-backed, says-acks, says-stores, says-prepared}
use Rattle.protocol.proofs.Asked.{sealed-out, sealed-in}

-- ---- the set of those that signed

count_same : (n : ℕ) (f g : ℕ → Bool) → ((k : ℕ) → k < n → f k ≡ g k) → count n f ≡ count n g
count_same n f g h =
    omega (arith, count-mono n f g (λ k l t. subst T (h k l) t), count-mono n g f (λ k l t. subst T (sym (h k l)) t))

module _ (width : ℕ) (X : List Stmt) (t : View) (p : Stmt → Bool) where
  each : (k : ℕ) → k < width → bit (signers width X t p) k ≡ (member t k && signs p X k)
  unfolding signers
  each k l = bit-set_of width (λ k. member t k && signs p X k) k l

  set-quorum : makes_quorum width t (signers width X t p) ≡ signed_by_quorum width X t p
  unfolding makes_quorum signed_by_quorum
  set-quorum = ap (λ n. has_members width t && leb (quorum (member_count width t)) n) (count_same width (bit (signers width X t p)) (λ k. member t k && signs p X k) each)

  pub who-signed : WhoSigned width X t p
  who-signed = record { each = each; yes = (stops width t p X).says ∙ sym set-quorum }

-- ---- the least as written

pub data Before (u v : View) : Type 0 where
  first : u.joined < v.joined → Before u v
  second : u.joined ≡ v.joined → u.left < v.left → Before u v

pub says-before : (u v : View) → Says (written_before u v) (Before u v)
unfolding written_before
says-before u v = says_map to from (says-or says-leb (says-and says-eqb says-leb))
  where
    to : (u.joined < v.joined) ⊎ ((u.joined ≡ v.joined) × (u.left < v.left)) → Before u v
    to (inl l) = first l
    to (inr (e, l)) = second e l

    from : Before u v → (u.joined < v.joined) ⊎ ((u.joined ≡ v.joined) × (u.left < v.left))
    from (first l) = inl l
    from (second e l) = inr (e, l)

-- u is written before v or is v
pub data AtMost (u v : View) : Type 0 where
  less : u.joined < v.joined → AtMost u v
  even : u.joined ≡ v.joined → u.left ≤ v.left → AtMost u v

pub at-most-self : (u : View) → AtMost u u
at-most-self u = even refl (omega arith)

pub at-most-on : {u v w : View} → AtMost u v → AtMost v w → AtMost u w
at-most-on (less l) (less m) = less (omega arith)
at-most-on (less l) (even e m) = less (omega arith)
at-most-on (even e l) (less m) = less (omega arith)
at-most-on (even e l) (even f m) = even (e ∙ f) (omega arith)

pub before-most : {u v : View} → Before u v → AtMost u v
before-most (first l) = less l
before-most (second e l) = even e (omega arith)

most-not : {u v : View} → AtMost u v → ¬ Before v u
most-not (less l) (first m) = omega arith
most-not (less l) (second e m) = omega arith
most-not (even e l) (first m) = omega arith
most-not (even e l) (second f m) = omega arith

pub not-before : (u v : View) → ¬ Before u v → AtMost v u
not-before u v n = elim (dec_lt v.joined u.joined) [
  | yes l ↦ less l
  | no l ↦ elim (dec_lt u.joined v.joined) [
    | yes m ↦ absurd (n (first m))
    | no m ↦ elim (dec_lt u.left v.left) [ yes k ↦ absurd (n (second (omega arith) k)) | no k ↦ even (omega arith) (omega arith) ]
  ]
]

least-none : (l : List View) → least_written l ≡ none → {v : View} → ¬ (v ∈ l)
unfolding least_written
least-none [] f m = Memᴰ.not-nil m
least-none (y ∷ l) f m = none≢some (sym f)

-- t is in the list, and no view of it is written before
IsLeast : List View → View → Type 0
IsLeast l t = (t ∈ l) × ((v : View) → v ∈ l → AtMost t v)

least-cons : (x : View) (l : List View) (o : Option View) → least_written l ≡ o → ((u : View) → o ≡ some u → IsLeast l u) → IsLeast (x ∷ l) (lesser x o)
unfolding IsLeast
least-cons x l none f ih = (Memᴰ.head refl, λ v j. elim (Memᴰ.cases_cons j) [ inl q ↦ subst (AtMost x) (sym q) (at-most-self x) | inr j ↦ absurd (least-none l f j) ])
least-cons x l (some u) f ih = pick (written_before u x) refl (ih u refl)
  where
    pick : (b : Bool) → written_before u x ≡ b → (u ∈ l) × ((v : View) → v ∈ l → AtMost u v) → ((if b then u else x) ∈ x ∷ l) × ((v : View) → v ∈ x ∷ l → AtMost (if b then u else x) v)
    pick true g (i, m) =
        (Memᴰ.tail i, λ v j. elim (Memᴰ.cases_cons j) [ inl q ↦ subst (AtMost u) (sym q) (before-most ((says-before u x).sound (rw g tt))) | inr j ↦ m v j ])
    pick false g (i, m) =
        let below : AtMost x u = not-before u x (λ b. subst T g ((says-before u x).complete b)) in
        (Memᴰ.head refl, λ v j. elim (Memᴰ.cases_cons j) [ inl q ↦ subst (AtMost x) (sym q) (at-most-self x) | inr j ↦ at-most-on below (m v j) ])

least-in : (l : List View) {t : View} → least_written l ≡ some t → IsLeast l t
unfolding least_written
least-in [] e = absurd (none≢some e)
least-in (x ∷ l) {t} e = subst (IsLeast (x ∷ l)) (some-injective e) (least-cons x l (least_written l) refl (λ u f. least-in l f))

-- and there is but one such
at_most_one : {u v : View} → AtMost u v → AtMost v u → u ≡ v
at_most_one (less l) (less m) = absurd (omega arith)
at_most_one (less l) (even e m) = absurd (omega arith)
at_most_one (even e l) (less m) = absurd (omega arith)
at_most_one {u} {v} (even e l) (even f m) = let q : u.left ≡ v.left = omega arith in λ i. record { joined = e i; left = q i }

least-is : (l : List View) (t : View) → t ∈ l → ((v : View) → v ∈ l → AtMost t v) → least_written l ≡ some t
unfolding IsLeast
least-is l t i f = go (least_written l) refl
  where
    go : (o : Option View) → least_written l ≡ o → o ≡ some t
    go none e = absurd (least-none l e i)
    go (some u) e = let (j, g) = least-in l e in ap some (at_most_one (g t i) (f u j))

least-empty : (l : List View) → ((v : View) → ¬ (v ∈ l)) → least_written l ≡ none
unfolding least_written
least-empty [] f = refl
least-empty (v ∷ l) f = absurd (f v (Memᴰ.head refl))

map-out : {A B : Type 0} (f : A → B) (l : List A) {b : B} → b ∈ map f l → (a : A) × (a ∈ l) × (f a ≡ b)
map-out f [] m = absurd (Memᴰ.not-nil m)
map-out f (x ∷ l) m = elim (Memᴰ.cases_cons m) [ inl e ↦ (x, Memᴰ.head refl, sym e) | inr i ↦ let (a, j, e) = map-out f l i in (a, Memᴰ.tail j, e) ]

module _ (R : Ring) (X : List Stmt) where
  least-top : (p : View → Bool) {t : View} → least_top R X p ≡ some t → LeastTop R X p t
  unfolding least_top IsLeast
  least-top p {t} e =
      let (i, m) = least-in (filter p (map (top R) (sealed_histories R X))) e in
      let (j, h) = filter-out p (map (top R) (sealed_histories R X)) i in
      let (H, k, q) = map-out (top R) (sealed_histories R X) j in
      record {
        history = H;
        sealed = sealed-out R X k;
        at = q;
        has = h;
        least = λ K s g. (says-not (says-before (top R K) t)).complete (most-not (m (top R K) (filter-in p (map (top R) (sealed_histories R X)) (Memᴰ.map (top R) (sealed-in R X s)) g)));
      }

  no_top : (p : View → Bool) → least_top R X p ≡ none → (H : List View) → Sealed R X H → ¬ T (p (top R H))
  unfolding least_top
  no_top p e H s g = least-none (filter p (map (top R) (sealed_histories R X))) e (filter-in p (map (top R) (sealed_histories R X)) (Memᴰ.map (top R) (sealed-in R X s)) g)

  -- from what is known of the sealed tops
  pub top-is : (p : View → Bool) (H : List View) → Sealed R X H → T (p (top R H)) → ((K : List View) → Sealed R X K → T (p (top R K)) → AtMost (top R H) (top R K)) → least_top R X p ≡ some (top R H)
  unfolding least_top
  top-is p H h t f =
      least-is (filter p (map (top R) (sealed_histories R X))) (top R H) (filter-in p (map (top R) (sealed_histories R X)) (Memᴰ.map (top R) (sealed-in R X h)) t) (λ v i.
      let (j, g) = filter-out p (map (top R) (sealed_histories R X)) i in
      let (K, k, q) = map-out (top R) (sealed_histories R X) j in
      subst (AtMost (top R H)) q (f K (sealed-out R X k) (subst (λ v. T (p v)) (sym q) g)))

  pub top-none : (p : View → Bool) → ((K : List View) → Sealed R X K → ¬ T (p (top R K))) → least_top R X p ≡ none
  unfolding least_top
  top-none p f =
      least-empty (filter p (map (top R) (sealed_histories R X))) (λ v i.
      let (j, g) = filter-out p (map (top R) (sealed_histories R X)) i in
      let (K, k, q) = map-out (top R) (sealed_histories R X) j in
      f K (sealed-out R X k) (subst (λ v. T (p v)) (sym q) g))

  module _ (says : View → Stmt → Bool) where
    -- the set at the least top that has a quorum
    behind : (o : Option View) → least_top R X (λ t. signed_by_quorum R.width X t (says t)) ≡ o
        → Behind R X says (set_at o (λ t. signers R.width X t (says t))) ⊎ ((o ≡ none) × ((H : List View) → Sealed R X H → ¬ T (signed_by_quorum R.width X (top R H) (says (top R H)))))
    behind (some t) e =
        let l = least-top (λ t. signed_by_quorum R.width X t (says t)) e in
        inl (record { place = t; least = l; set = refl; quorum = subst T (sym (set-quorum R.width X t (says t))) l.has })
    behind none e = inr (refl, no_top (λ t. signed_by_quorum R.width X t (says t)) e)

  -- the set of a delivered answer
  pub store-behind : {i m : ℕ} → ((H : List View) × Sealed R X H × Quorum R.width (top R H) (Signed X (Store (top R H) i m))) → Behind R X (λ t. stores t i m) (store_set R X i m)
  unfolding store_set set_behind
  store-behind {i} {m} (H, h, q) = go (least_top R X (λ t. signed_by_quorum R.width X t (stores t i m))) refl
    where
      go : (o : Option View) → least_top R X (λ t. signed_by_quorum R.width X t (stores t i m)) ≡ o → Behind R X (λ t. stores t i m) (set_at o (λ t. signers R.width X t (stores t i m)))
      go o e = elim (behind (λ t. stores t i m) o e) [ inl b ↦ b | inr (_, n) ↦ absurd (n H h ((says-backed (λ s. says-stores)).complete q)) ]

  -- the set for the screen
  pub ack-set : (senders : List ℕ) (i m : ℕ) → i < length senders → AckSetIs R senders X i m
  unfolding ack_set set_behind
  ack-set senders i m l =
      let w : Whole (is_prepared senders X i m) (least_top R X (λ t. signed_by_quorum R.width X t (acks t i m))) = go (is_prepared senders X i m) refl (least_top R X (λ t. signed_by_quorum R.width X t (acks t i m))) refl in
      rw (lt-ltb i (length senders) l) w
    where
      set : Bool → Option View → ℕ
      set b o = if b then set_at o (λ t. signers R.width X t (acks t i m)) else 0

      Whole : Bool → Option View → Type 0
      Whole b o = (Prepared senders X i m × Behind R X (λ t. acks t i m) (set b o)) ⊎ ((¬ Certificate R senders X i m) × (set b o ≡ 0))

      go : (b : Bool) → is_prepared senders X i m ≡ b → (o : Option View) → least_top R X (λ t. signed_by_quorum R.width X t (acks t i m)) ≡ o → Whole b o
      go true f o e = elim (behind (λ t. acks t i m) o e) [
        | inl b ↦ inl ((says-prepared senders X i m).sound (rw f tt), b)
        | inr (q, n) ↦ inr (λ c. n c.history c.sealed ((says-backed (λ s. says-acks)).complete c.acked), ap (set true) q)
      ]
      go false f o e = inr (λ c. subst T f ((says-prepared senders X i m).complete c.prepared), refl)
