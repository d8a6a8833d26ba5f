-- The certificates and what is stored, from the groups of acks and stores by a quorum of a sealed top.
-- Assumes nothing.
use mathlib.Core.Path.{◌≡◌, refl, sym, ap, ap₂, subst, ◌∙◌}
use mathlib.Core.Logic.{inl, inr}
use mathlib.Core.Bool.{Bool, true, false, not, ◌&&◌}
use mathlib.Core.List.Memᴰ
use mathlib.Core.List.{List, [], ◌∷◌}
use mathlib.Core.Option as option
use Rattle.std.specs.Prelude.{Option, Some, None}
use Prim.Native.Nat.{ℕ, ◌+◌, ◌^◌, ◌≤◌, ◌<◌, min}
use native.Mathlib.Decide.{ℕ_discrete, dec_lt}
use native.Mathlib.Omega.{arith}
use lib.Dec.{T, eqb, ltb, ltb→lt}
use lib.ListN.{length, get_or, set}
use lib.Seq.{get_or-set_same, get_or-set_other}
use borrow.Author.Tests.{lt-ltb}
use Rattle.protocol.specs.Sets.{bit}
use Rattle.protocol.specs.Lists.{◌∈◌, first, when, pairwise}
use Rattle.protocol.specs.View.{View}
use Rattle.protocol.specs.History.{top}
use Rattle.protocol.specs.Statement.{Stmt, is_kind, payload_of, Store, Signed}
use Rattle.protocol.specs.Evidence.{Quorum, sealed, Shown, is_prepared, Certificate, certificates}
use Rattle.protocol.proofs.Says.{Says, is_true, from-true, says_map, says-unique, says-self, says-and, says-eqb, says-every}
use Rattle.protocol.proofs.Bits.{bit-zero}
use Rattle.protocol.proofs.Numbered.{list_of-out, put-at, put_is}
use Rattle.protocol.proofs.Quorums.{someone}
use Rattle.protocol.proofs.Decided.{says-kind, says-prepared, says-stored}
use Rattle.protocol.proofs.Asked.{says-pairwise, certificates-in, certificates-out}
use Rattle.views.specs.View.{ring_of_word}
use Rattle.views.proofs.Sets.{bit-far}
use Rattle.views.proofs.Views.{passes, fails}
use Rattle.pool.specs.Pool.{stmt_at, record_up_to}
use Rattle.views.specs.Tally.{place_in}
use Rattle.votes.specs.Votes.{entry, vote_at}
use Rattle.votes.proofs.Alike.{Alike, says-alike}
use Rattle.statements.specs.Sets.{PutBit}
use Rattle.evidence.specs.Shown.{is_backed, Backed, OneAcked, PreparedList, listed, certifies_by, stores_one, OneCertificate, CertificatesOf, StoredOf}
use Rattle.evidence.specs.Casts.{Late}
use Rattle.evidence.specs.declared.certificates.Said.{Said}
use Rattle.evidence.proofs.Backing.{Cast, cast-of, signed-map, cast-quorum, quorum-cast}

-- a statement of a record, by its place
pub placed : (W ids : List ℕ) (len : ℕ) {s : Stmt} → s ∈ record_up_to W ids len → (i : ℕ) × (i < min len 512) × (entry W ids i ≡ s)
unfolding record_up_to
placed W ids len m = let (i, l, e) = list_of-out (min len 512) (λ i. stmt_at W (get_or ids i 0)) m in (i, l, sym e)

-- An ack of what the sender of notice i prepared.
unfoldable pub certifies : List ℕ → List Stmt → ℕ → Stmt → Bool
certifies senders X i s = is_kind 7 s && eqb s.notice i && is_prepared senders X i (payload_of s)

-- ---- a notice more in a set

module _ {a j r : ℕ} (put : PutBit a j true r) where
  put-here : j < 64 → bit r j ≡ true
  put-here l = put.bits j l ∙ put-at j true (bit a)

  put_other : (i : ℕ) → i < 64 → (i ≡ j → ⊥) → bit r i ≡ bit a i
  put_other i l d = elim (put_is j true (bit a) i) [ inl (e, _) ↦ absurd (d e) | inr e ↦ put.bits i l ∙ e ]

zero_bit : (i : ℕ) → bit 0 i ≡ true → ⊥
zero_bit i e = subst T (sym e ∙ bit-zero i) tt

-- a set of 64 bits has no notice from 64 on
pub bit-near : (a j : ℕ) {r : Bool} → a < 2 ^ 64 → r ≡ bit a j → r ≡ true → j < 64
bit-near a j l e t = elim (dec_lt j 64) [ yes h ↦ h | no h ↦ absurd (subst T (sym t ∙ e ∙ bit-far 64 a j l (omega arith)) tt) ]

-- ---- the certificate of one notice, from its payload

module _ {senders : List ℕ} {X : List Stmt} (j m : ℕ) where
  pub one-far : {P : List ℕ} → length senders ≤ j → OneCertificate senders X j m P 0
  one-far l = record { here = λ h. absurd (omega arith); payload = λ t. absurd (zero_bit j t); others = λ k d. bit-zero k; within = λ h. bit-zero j }

  module _ (b : Bool) (asked : b ≡ is_prepared senders X j m) where
    pub one-unprepared : {P : List ℕ} → b ≡ false → OneCertificate senders X j m P 0
    one-unprepared f = record { here = λ h. bit-zero j ∙ sym f ∙ asked; payload = λ t. absurd (zero_bit j t); others = λ k d. bit-zero k; within = λ h. bit-zero j }

    pub one-prepared : (P : List ℕ) {r : ℕ} → b ≡ true → j < length senders → length senders ≤ 64 → length P ≡ 64 → PutBit 0 j true r → r < 2 ^ 64 → OneCertificate senders X j m (set P j m) r
    one-prepared P {r} t l most long put small = record {
      here = λ h. put-here put (omega arith) ∙ sym t ∙ asked;
      payload = λ y. get_or-set_same P j m 0 (omega arith);
      others = λ k d. elim (dec_lt k 64) [ yes h ↦ put_other put k h d ∙ bit-zero k | no h ↦ bit-far 64 r k small (omega arith) ];
      within = λ h. absurd (omega arith);
    }

-- ---- one payload alone

-- of the groups before g, of n in all, those that have P have one payload
pub record Sole {A : Type 0} (P : ℕ → Type 0) (paid : ℕ → A) (n g : ℕ) (some : Bool) (payload : A) : Type 0 where
  pub one : some ≡ true → (h : ℕ) × (h < n) × P h × (paid h ≡ payload)
  pub all : (h : ℕ) → h < g → P h → (some ≡ true) × (paid h ≡ payload)

sole-first : {A : Type 0} {P : ℕ → Type 0} {paid : ℕ → A} {n : ℕ} {some : Bool} {payload : A} → some ≡ false → Sole P paid n 0 some payload
sole-first e = record { one = λ t. absurd (subst T (sym t ∙ e) tt); all = λ h l. absurd (omega arith) }

sole-as : {A : Type 0} {P : ℕ → Type 0} {paid : ℕ → A} {n g : ℕ} {some some' : Bool} {payload payload' : A} → some ≡ some' → payload ≡ payload' → Sole P paid n g some payload → Sole P paid n g some' payload'
sole-as e f c = record {
  one = λ t. let (h, l, y, q) = c.one (e ∙ t) in (h, l, y, q ∙ f);
  all = λ h l p. let (t, q) = c.all h l p in (sym e ∙ t, q ∙ f);
}

module _ {A : Type 0} {P : ℕ → Type 0} {paid : ℕ → A} {n g : ℕ} {payload : A} {some : Bool} (c : Sole P paid n g some payload) where
  sole-step : (P g → (some ≡ true) × (paid g ≡ payload)) → Sole P paid n (g + 1) some payload
  sole-step w = record {
    one = c.one;
    all = λ h l. elim (ℕ_discrete h g) [
      | yes e ↦ subst (λ h. P h → (some ≡ true) × (paid h ≡ payload)) (sym e) w
      | no n ↦ c.all h (omega arith)
    ];
  }

  sole-start : {m : A} → g < n → P g → m ≡ paid g → some ≡ false → Sole P paid n (g + 1) true m
  sole-start {m} l y is z = record {
    one = λ t. (g, l, y, sym is);
    all = λ h l. elim (ℕ_discrete h g) [
      | yes e ↦ subst (λ h. P h → (true ≡ true) × (paid h ≡ m)) (sym e) (λ q. (refl, sym is))
      | no n ↦ (λ q. absurd (subst T (sym (c.all h (omega arith) q).0 ∙ z) tt))
    ];
  }

-- ---- what is acked

module _ (W ids G : List ℕ) (n : ℕ) where
  abbrev vote : ℕ → Stmt
  vote g = vote_at W ids G g

  -- what an ack is of: its notice and its payload
  abbrev named : Stmt → ℕ × ℕ
  named s = (s.notice, payload_of s)

  -- the groups of acks before g are of one notice and have one payload
  pub record AckedTo (g : ℕ) (some : Bool) (notice payload : ℕ) : Type 0 where
    pub sole : Sole {A = ℕ × ℕ} (λ h. (vote h).kind ≡ 7) (λ h. named (vote h)) n g some (notice, payload)

  pub acked-first : (notice payload : ℕ) → AckedTo 0 false notice payload
  acked-first notice payload = record { sole = sole-first refl }

  -- the first vote of group g stands at f
  module _ {g notice payload : ℕ} {some : Bool} (c : AckedTo g some notice payload) (f : ℕ) (p : f ≡ place_in (get_or G g 0)) (k : ℕ) (kind : k ≡ (entry W ids f).kind) where
    kind-here : k ≡ (vote g).kind
    kind-here = kind ∙ ap (λ i. (entry W ids i).kind) p

    pub acked-not : (k ≡ 7 → ⊥) → AckedTo (g + 1) some notice payload
    acked-not d = record { sole = sole-step c.sole (λ q. absurd (d (kind-here ∙ q))) }

    module _ (j m : ℕ) (of : j ≡ (entry W ids f).notice) (is : m ≡ payload_of (entry W ids f)) where
      named_here : (j, m) ≡ named (vote g)
      named_here = ap₂ (λ j m. (j, m)) of is ∙ ap (λ i. named (entry W ids i)) p

      pub acked-same : some ≡ true → j ≡ notice → m ≡ payload → AckedTo (g + 1) some notice payload
      acked-same t u v = record { sole = sole-step c.sole (λ q. (t, sym named_here ∙ ap₂ (λ j m. (j, m)) u v)) }

      pub acked-start : g < n → k ≡ 7 → some ≡ false → AckedTo (g + 1) true j m
      acked-start l s z = record { sole = sole-start c.sole l (sym kind-here ∙ s) named_here z }

-- the same, of what was found so far
abbrev pub AckedAt : List ℕ → List ℕ → List ℕ → ℕ → ℕ → Option Said → Type 0
AckedAt W ids G n g None = AckedTo W ids G n g false 0 0
AckedAt W ids G n g (Some a) = AckedTo W ids G n g true a.notice a.payload

module _ (W ids G : List ℕ) (n g : ℕ) (o : Option Said) (c : AckedAt W ids G n g o) (f : ℕ) (p : f ≡ place_in (get_or G g 0)) (k : ℕ) (kind : k ≡ (entry W ids f).kind) where
  pub found-not : (k ≡ 7 → ⊥) → AckedAt W ids G n (g + 1) o
  found-not d = go o c
    where
      go : (o : Option Said) → AckedAt W ids G n g o → AckedAt W ids G n (g + 1) o
      go None c = acked-not W ids G n c f p k kind d
      go (Some a) c = acked-not W ids G n c f p k kind d

  module _ (said : Said) (of : said.notice ≡ (entry W ids f).notice) (is : said.payload ≡ payload_of (entry W ids f)) where
    pub found-start : o ≡ None → g < n → k ≡ 7 → AckedAt W ids G n (g + 1) (Some said)
    found-start e l s = acked-start W ids G n (subst (AckedAt W ids G n g) e c) f p k kind said.notice said.payload of is l s refl

    pub found-same : (a : Said) → o ≡ Some a → (b : Bool) → b ≡ (eqb a.notice said.notice && eqb a.payload said.payload) → b ≡ true → AckedAt W ids G n (g + 1) o
    found-same a e b q t =
        let (u, v) = (says-and (says-eqb {m = a.notice} {n = said.notice}) (says-eqb {m = a.payload} {n = said.payload})).sound (from-true (sym q ∙ t)) in
        subst (AckedAt W ids G n (g + 1)) (sym e) (acked-same W ids G n (subst (AckedAt W ids G n g) e c) f p k kind said.notice said.payload of is refl (sym u) (sym v))

-- ---- how far the groups were asked

module _ (W ids : List ℕ) (len : ℕ) (senders G : List ℕ) (n : ℕ) where
  -- the groups before g have certificates for the notices in the set `some` alone, for the payloads in P
  pub record Gathered (g some : ℕ) (P : List ℕ) : Type 0 where
    pub sole : (i : ℕ) → i < length senders → Sole {A = ℕ} (λ h. T (certifies senders (record_up_to W ids len) i (vote_at W ids G h))) (λ h. payload_of (vote_at W ids G h)) n g (bit some i) (get_or P i 0)
    pub within : (i : ℕ) → i < 64 → length senders ≤ i → bit some i ≡ false
    pub small : some < 2 ^ 64

-- those before g that are stores of what has a certificate are of the notices in the set `seen`
pub record StoredTo (W ids G : List ℕ) (n : ℕ) (some : ℕ) (P : List ℕ) (g seen : ℕ) : Type 0 where
  pub sound : (i : ℕ) → i < 64 → bit seen i ≡ true → (h : ℕ) × (h < n) × ((vote_at W ids G h).kind ≡ 8) × ((vote_at W ids G h).notice ≡ i) × (payload_of (vote_at W ids G h) ≡ get_or P i 0)
  pub complete : (i : ℕ) → i < 64 → (h : ℕ) → h < g → T (stores_one some P (vote_at W ids G h)) → (vote_at W ids G h).notice ≡ i → bit seen i ≡ true

-- ---- the groups, and what they are backed by

module _ (W ids : List ℕ) (len init : ℕ) (G : List ℕ) (n : ℕ) (backed : Backed W ids len init G n) where
  abbrev X : List Stmt
  X = record_up_to W ids len

  -- the group of what a quorum of a sealed top cast
  group : (k i m : ℕ) {H : List View} → Late k → Shown (ring_of_word init) X (sealed H) → Quorum 16 (top (ring_of_word init) H) (Signed X (Cast init X k (top (ring_of_word init) H) i m))
      → (g : ℕ) × (g < n) × ((vote W ids G n g).kind ≡ k) × ((vote W ids G n g).notice ≡ i) × (payload_of (vote W ids G n g) ≡ m)
  group k i m l g q =
      let (_, (s, p, _, c)) = someone q in
      let (j, h, e) = placed W ids len p in
      let (f, u, al) = backed.covers j h (subst (λ s. T (is_backed init X s)) (sym e) (quorum-cast init X k i m s l g q c)) in
      let a : Alike (vote W ids G n f) (entry W ids j) = (says-alike _ _).sound al in
      let kind : (vote W ids G n f).kind ≡ k = sym a.kind ∙ ap (λ s. s.kind) e ∙ c.kind in
      let d = cast-of init X k l kind a in
      (f, u, kind, sym d.notice ∙ ap (λ s. s.notice) e ∙ c.notice, sym d.payload ∙ ap (λ s. payload_of s) e ∙ c.payload)

  -- ---- certificates

  module _ (senders : List ℕ) where
    abbrev Cert : ℕ → ℕ → Type 0
    Cert i m = Certificate (ring_of_word init) senders X i m

    abbrev Certs : ℕ → ℕ → List ℕ → Type 0
    Certs g some P = Gathered W ids len senders G n g some P

    abbrev Says-certifies : ℕ → Stmt → Type 0
    Says-certifies i s = ((s.kind ≡ 7) × (s.notice ≡ i)) × T (is_prepared senders X i (payload_of s))

    says-certifies : (i : ℕ) (s : Stmt) → Says (certifies senders X i s) (Says-certifies i s)
    unfolding certifies
    says-certifies i s = says-and (says-and (says-kind 7 s) (says-eqb {m = s.notice} {n = i})) (says-self (is_prepared senders X i (payload_of s)))

    cert-sound : (i g : ℕ) → g < n → T (certifies senders X i (vote W ids G n g)) → Cert i (payload_of (vote W ids G n g))
    cert-sound i g l t =
        let ((k, e), p) = (says-certifies i (vote W ids G n g)).sound t in
        let (H, h, q) = cast-quorum init X 7 (vote W ids G n g) (inl refl) k (backed.sound g l) in
        record {
          history = H;
          sealed = h;
          acked = signed-map init X (λ s c. record { kind = c.kind; at = c.at; notice = c.notice ∙ e; payload = c.payload }) q;
          prepared = (says-prepared senders X i (payload_of (vote W ids G n g))).sound p;
        }

    cert-complete : {i m : ℕ} → Cert i m → (g : ℕ) × (g < n) × T (certifies senders X i (vote W ids G n g)) × (payload_of (vote W ids G n g) ≡ m)
    cert-complete {i} {m} c =
        let (g, l, k, e, f) = group 7 i m (inl refl) c.sealed (signed-map init X (λ s a. record { kind = a.kind; at = a.at; notice = a.notice; payload = a.payload }) c.acked) in
        (g, l, (says-certifies i (vote W ids G n g)).complete ((k, e), subst (λ m. T (is_prepared senders X i m)) (sym f) ((says-prepared senders X i m).complete c.prepared)), f)

    one-sound : {g some : ℕ} {P : List ℕ} → Certs g some P → (i : ℕ) → i < length senders → bit some i ≡ true → Cert i (get_or P i 0)
    one-sound c i l t = let (h, k, y, q) = (c.sole i l).one t in subst (Cert i) q (cert-sound i h k y)

    says-single : (i : ℕ) → Says (pairwise eqb (certificates (ring_of_word init) senders X i))
        ((a : ℕ) → a ∈ certificates (ring_of_word init) senders X i → (b : ℕ) → b ∈ certificates (ring_of_word init) senders X i → a ≡ b)
    says-single i = says-pairwise (λ a b. says-eqb {m = a} {n = b}) (certificates (ring_of_word init) senders X i)

    within_all : {g some : ℕ} {P : List ℕ} → Certs g some P → (i : ℕ) → length senders ≤ i → bit some i ≡ false
    within_all {g} {some} c i h = elim (dec_lt i 64) [ yes l ↦ c.within i l h | no l ↦ bit-far 64 some i c.small (omega arith) ]

    pub gathered-first : (P : List ℕ) → Certs 0 0 P
    gathered-first P = record { sole = λ i h. sole-first (bit-zero i); within = λ i h k. bit-zero i; small = omega arith }

    -- the first vote of group g stands at f, and r is whether it acks one of the rows in K, which are what the senders prepared
    module _ {K R : List ℕ} {known : ℕ} (prepared : PreparedList senders X K R known) (most : length senders ≤ 64) {g some : ℕ} {P : List ℕ} (c : Certs g some P)
        (f : ℕ) (p : f ≡ place_in (get_or G g 0)) (notices : ℕ) (count : notices ≡ length senders) (r : Bool) (asked : r ≡ certifies_by notices K known (entry W ids f)) where
      abbrev here : Stmt
      here = vote W ids G n g

      asked_here : r ≡ certifies_by (length senders) K known here
      asked_here = asked ∙ ap₂ (λ i k. certifies_by k K known (entry W ids i)) p count

      says-asked : Says (certifies_by (length senders) K known here) (((here.kind ≡ 7) × T (ltb here.notice (length senders))) × T (listed K known here.notice (payload_of here)))
      unfolding certifies_by
      says-asked = says-and (says-and (says-kind 7 here) (says-self (ltb here.notice (length senders)))) (says-self (listed K known here.notice (payload_of here)))

      certified : r ≡ true → (here.notice < length senders) × T (certifies senders X here.notice here)
      certified e =
          let ((k, l), t) = says-asked.sound (from-true (sym asked_here ∙ e)) in
          let h = ltb→lt here.notice (length senders) l in
          (h, (says-certifies here.notice here).complete ((k, refl), subst T (sym (prepared.are here.notice (payload_of here) h)) t))

      uncertified : r ≡ false → (i : ℕ) → i < length senders → T (certifies senders X i here) → ⊥
      uncertified e i l t =
          let ((k, q), u) = (says-certifies i here).sound t in
          let h : here.notice < length senders = omega arith in
          subst T (sym asked_here ∙ e) (says-asked.complete (
            (k, from-true (lt-ltb here.notice (length senders) h)),
            subst T (prepared.are here.notice (payload_of here) h) (subst (λ i. T (is_prepared senders X i (payload_of here))) (sym q) u),
          ))

      pub gathered-not : r ≡ false → Certs (g + 1) some P
      gathered-not e = record { sole = λ i l. sole-step (c.sole i l) (λ t. absurd (uncertified e i l t)); within = c.within; small = c.small }

      module _ (j m : ℕ) (l : g < n) (sure : r ≡ true) (of : j ≡ (entry W ids f).notice) (is : m ≡ payload_of (entry W ids f)) where
        notice-here : j ≡ here.notice
        notice-here = of ∙ ap (λ i. (entry W ids i).notice) p

        payload-here : m ≡ payload_of here
        payload-here = is ∙ ap (λ i. payload_of (entry W ids i)) p

        inside : j < length senders
        inside = omega (arith, (certified sure).0, notice-here)

        certifies-here : T (certifies senders X j here)
        certifies-here = subst (λ i. T (certifies senders X i here)) (sym notice-here) (certified sure).1

        pub notice-fits : j < 64
        notice-fits = omega (arith, inside)

        -- an ack of another notice
        other : (i : ℕ) → (i ≡ j → ⊥) → T (certifies senders X i here) → ⊥
        other i d t = d (sym (notice-here ∙ ((says-certifies i here).sound t).0.1))

        pub gathered-start : {b : Bool} {some' : ℕ} → b ≡ bit some j → b ≡ false → PutBit some j true some' → some' < 2 ^ 64 → length P ≡ 64 → Certs (g + 1) some' (set P j m)
        gathered-start {b} {some'} a z put s long = record {
          sole = λ i h. elim (ℕ_discrete i j) [
            | yes e ↦ sole-as (sym (put-here put notice-fits) ∙ ap (bit some') (sym e)) (sym (get_or-set_same P j m 0 (omega (arith, notice-fits))) ∙ ap (λ i. get_or (set P j m) i 0) (sym e))
                (sole-start (c.sole i h) l (subst (λ i. T (certifies senders X i here)) (sym e) certifies-here) payload-here (ap (bit some) e ∙ sym a ∙ z))
            | no d ↦ sole-as (sym (put_other put i (omega arith) d)) (sym (get_or-set_other P j i m 0 d)) (sole-step (c.sole i h) (λ t. absurd (other i d t)))
          ];
          within = λ i h k. put_other put i h (λ e. omega (arith, inside)) ∙ c.within i h k;
          small = s;
        }

        pub gathered-same : {b : Bool} → b ≡ bit some j → b ≡ true → m ≡ get_or P j 0 → Certs (g + 1) some P
        gathered-same {b} a t e = record {
          sole = λ i h. sole-step (c.sole i h) (λ y. elim (ℕ_discrete i j) [
            | yes q ↦ (ap (bit some) q ∙ sym a ∙ t, sym payload-here ∙ e ∙ ap (λ i. get_or P i 0) (sym q))
            | no d ↦ absurd (other i d y)
          ]);
          within = c.within;
          small = c.small;
        }

        pub gathered-clash : {b : Bool} → b ≡ bit some j → b ≡ true → (m ≡ get_or P j 0 → ⊥) → CertificatesOf init senders X P (record { conflict = true; some = some })
        gathered-clash {b} a t d = record {
          conflict = ap not (sym (fails (says-every says-single (length senders)) (λ h.
              d (h j inside m (certificates-in (ring_of_word init) senders X (subst (Cert j) (sym payload-here) (cert-sound j g l certifies-here)))
              (get_or P j 0) (certificates-in (ring_of_word init) senders X (one-sound c j inside (sym a ∙ t)))))));
          certificate = λ e. absurd (subst T e tt);
          within = within_all c;
        }

    pub gathered-end : (g some : ℕ) (P : List ℕ) → g ≡ n → Certs g some P → CertificatesOf init senders X P (record { conflict = false; some = some })
    gathered-end g some P e c = record {
      conflict = ap not (sym (passes (says-every says-single (length senders))
          (λ i l a u b v. (only i l (certificates-out (ring_of_word init) senders X u)).1 ∙ sym (only i l (certificates-out (ring_of_word init) senders X v)).1)));
      certificate = λ z i l. go i l (bit some i) refl (certificates (ring_of_word init) senders X i) refl;
      within = within_all c;
    }
      where
        only : (i : ℕ) → i < length senders → {m : ℕ} → Cert i m → (bit some i ≡ true) × (m ≡ get_or P i 0)
        only i l k = let (h, u, t, q) = cert-complete k in let (y, p) = (c.sole i l).all h (omega arith) t in (y, sym q ∙ p)

        go : (i : ℕ) → i < length senders → (b : Bool) → bit some i ≡ b → (l : List ℕ) → certificates (ring_of_word init) senders X i ≡ l → when b (get_or P i 0) ≡ first l
        go i u true f [] h = absurd (Memᴰ.not-nil (subst (λ l. get_or P i 0 ∈ l) h (certificates-in (ring_of_word init) senders X (one-sound c i u f))))
        go i u true f (m ∷ l) h = ap option.some (sym (only i u (certificates-out (ring_of_word init) senders X (subst (λ l. m ∈ l) (sym h) (Memᴰ.head refl)))).1)
        go i u false f [] h = refl
        go i u false f (m ∷ l) h = absurd (subst T (sym (only i u (certificates-out (ring_of_word init) senders X (subst (λ l. m ∈ l) (sym h) (Memᴰ.head refl)))).0 ∙ f) tt)

    -- ---- one payload of one notice alone

    pub only_none : (P : List ℕ) → ((h : ℕ) → h < n → (vote W ids G n h).kind ≡ 7 → ⊥) → CertificatesOf init senders X P (record { conflict = false; some = 0 })
    only_none P none = gathered-end n 0 P refl (record {
      sole = λ i l. record {
        one = λ t. absurd (zero_bit i t);
        all = λ h u t. absurd (none h u ((says-certifies i (vote W ids G n h)).sound t).0.0);
      };
      within = λ i h k. bit-zero i;
      small = omega arith;
    })

    module _ {notice payload : ℕ} (a : OneAcked W ids G n notice payload) (most : length senders ≤ 64) where
      only-in : {i h : ℕ} → h < n → T (certifies senders X i (vote W ids G n h)) → (i ≡ notice) × (payload_of (vote W ids G n h) ≡ payload) × T (is_prepared senders X i payload)
      only-in {i} {h} l t =
          let ((k, e), p) = (says-certifies i (vote W ids G n h)).sound t in
          let (q, v) = a.all h l k in
          (sym e ∙ q, v, subst (λ m. T (is_prepared senders X i m)) v p)

      pub only-prepared : (r : ℕ) (P : List ℕ) → r < 2 ^ 64 → OneCertificate senders X notice payload P r → CertificatesOf init senders X P (record { conflict = false; some = r })
      only-prepared r P small one = gathered-end n r P refl (record {
        sole = λ i l. record {
          one = λ t.
              let e = at i t in
              let (g, u, k, q, v) = a.one in
              (g, u, (says-certifies i (vote W ids G n g)).complete ((k, q ∙ sym e), subst (λ m. T (is_prepared senders X i m)) (sym v) (from-true (sym (here i l e) ∙ t))), v ∙ sym (paid i e t));
          all = λ h u t. let (e, v, p) = only-in u t in (here i l e ∙ is_true _ p, v ∙ sym (paid i e (here i l e ∙ is_true _ p)));
        };
        within = λ i h k. elim (ℕ_discrete i notice) [ yes e ↦ ap (bit r) e ∙ one.within (omega arith) | no d ↦ one.others i d ];
        small = small;
      })
        where
          at : (i : ℕ) → bit r i ≡ true → i ≡ notice
          at i t = elim (ℕ_discrete i notice) [ yes e ↦ e | no d ↦ absurd (subst T (sym t ∙ one.others i d) tt) ]

          here : (i : ℕ) → i < length senders → i ≡ notice → bit r i ≡ is_prepared senders X i payload
          here i l e = ap (bit r) e ∙ one.here (omega arith) ∙ ap (λ i. is_prepared senders X i payload) (sym e)

          paid : (i : ℕ) → i ≡ notice → bit r i ≡ true → get_or P i 0 ≡ payload
          paid i e t = ap (λ i. get_or P i 0) e ∙ one.payload (ap (bit r) (sym e) ∙ t)

  -- ---- stored

  module _ (some : ℕ) (P : List ℕ) where
    says-stores-one : (s : Stmt) → Says (stores_one some P s) (((s.kind ≡ 8) × T (bit some s.notice)) × (payload_of s ≡ get_or P s.notice 0))
    unfolding stores_one
    says-stores-one s = says-and (says-and (says-kind 8 s) (says-self (bit some s.notice))) says-eqb

    pub stored-first : StoredTo W ids G n some P 0 0
    stored-first = record { sound = λ i h t. absurd (zero_bit i t); complete = λ i k h l. absurd (omega arith) }

    module _ {g seen : ℕ} (c : StoredTo W ids G n some P g seen) (f : ℕ) (p : f ≡ place_in (get_or G g 0)) (r : Bool) (asked : r ≡ stores_one some P (entry W ids f)) where
      stores-here : r ≡ stores_one some P (vote W ids G n g)
      stores-here = asked ∙ ap (λ i. stores_one some P (entry W ids i)) p

      pub stored-not : r ≡ false → StoredTo W ids G n some P (g + 1) seen
      stored-not e = record {
        sound = c.sound;
        complete = λ i k h l. elim (ℕ_discrete h g) [
          | yes q ↦ subst (λ h. T (stores_one some P (vote W ids G n h)) → (vote W ids G n h).notice ≡ i → bit seen i ≡ true) (sym q) (λ t. absurd (subst T (sym stores-here ∙ e) t))
          | no d ↦ c.complete i k h (omega arith)
        ];
      }

      pub stored_more : (j : ℕ) {seen' : ℕ} → g < n → r ≡ true → j ≡ (entry W ids f).notice → PutBit seen j true seen' → StoredTo W ids G n some P (g + 1) seen'
      stored_more j {seen'} l e of put = record {
        sound = λ i k t. elim (ℕ_discrete i j) [
          | yes q ↦ (let ((u, _), v) = (says-stores-one (vote W ids G n g)).sound (from-true (sym stores-here ∙ e)) in
              let w : (vote W ids G n g).notice ≡ i = sym here ∙ sym q in
              (g, l, u, w, v ∙ ap (λ i. get_or P i 0) w))
          | no d ↦ c.sound i k (sym (put_other put i k d) ∙ t)
        ];
        complete = λ i k h b. elim (ℕ_discrete i j) [
          | yes q ↦ (λ t w. ap (bit seen') q ∙ put-here put (omega arith))
          | no d ↦ elim (ℕ_discrete h g) [
            | yes q ↦ (λ t w. absurd (d (sym w ∙ ap (λ h. (vote W ids G n h).notice) q ∙ sym here)))
            | no z ↦ (λ t w. put_other put i k d ∙ c.complete i k h (omega arith) t w)
          ]
        ];
      }
        where
          here : j ≡ (vote W ids G n g).notice
          here = of ∙ ap (λ i. (entry W ids i).notice) p

    -- a quorum of a sealed top stored the payload of notice i
    abbrev Stores : ℕ → Type 0
    Stores i = (H : List View) × Shown (ring_of_word init) X (sealed H) × Quorum 16 (top (ring_of_word init) H) (Signed X (Store (top (ring_of_word init) H) i (get_or P i 0)))

    pub stored-end : {g seen : ℕ} → g ≡ n → StoredTo W ids G n some P g seen → StoredOf init X some P seen
    stored-end {g} {seen} e c = record { are = λ i l y. says-unique (says-self (bit seen i)) (says_map (from i l y) (to i l) (says-stored (ring_of_word init) X i (get_or P i 0))) }
      where
        to : (i : ℕ) → i < 64 → T (bit seen i) → Stores i
        to i l t =
            let (h, u, k, q, v) = c.sound i l (is_true _ t) in
            let (H, s, b) = cast-quorum init X 8 (vote W ids G n h) (inr refl) k (backed.sound h u) in
            (H, s, signed-map init X (λ s c. record { kind = c.kind; at = c.at; notice = c.notice ∙ q; payload = c.payload ∙ v }) b)

        from : (i : ℕ) → i < 64 → bit some i ≡ true → Stores i → T (bit seen i)
        from i l y (H, s, b) =
            let (f, u, k, q, v) = group 8 i (get_or P i 0) (inr refl) s (signed-map init X (λ s a. record { kind = a.kind; at = a.at; notice = a.notice; payload = a.payload }) b) in
            from-true (c.complete i l f (omega arith) ((says-stores-one (vote W ids G n f)).complete ((k, from-true (ap (bit some) q ∙ y)), v ∙ ap (λ i. get_or P i 0) (sym q))) q)
