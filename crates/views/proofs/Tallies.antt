-- Laws of tallies: one signer more, and what a tally says of a record.
-- Assumes nothing.
use mathlib.Core.Path.{◌≡◌, refl, sym, ap, ap₂, subst, ◌∙◌}
use mathlib.Core.Logic.{◌⊎◌, inl, inr}
use mathlib.Core.Bool.{Bool, true, false, not, ◌&&◌, ◌||◌}
use mathlib.Core.List.{List, [], ◌∷◌, ◌++◌}
use Prim.Native.Nat.{ℕ, zero, suc, ◌+◌, ◌-◌, ◌*◌, ◌/◌, ◌%◌, ◌^◌, ◌≤◌, ◌<◌, max}
use native.Mathlib.Decide.{ℕ_discrete}
use native.Mathlib.Omega.{arith}
use lib.Dec.{T, eqb, leb}
use lib.Bits.{bit_and, and_le_l, and_le_r, and_mod, and_shr}
use lib.ListN.{length}
use borrow.Author.Tests.{eq-eqb, ne_eqb}
use Rattle.protocol.specs.Sets.{bit, one, count, set_of}
use Rattle.protocol.specs.Lists.{any}
use Rattle.protocol.specs.View.{View, member, quorum, member_count, has_members}
use Rattle.protocol.specs.Statement.{Stmt}
use Rattle.protocol.specs.Evidence.{signs, tally, has_quorum, signed_by_quorum}
use Rattle.protocol.specs.Count.{count_quorum}
use Rattle.protocol.proofs.Bits.{bit-and, bit-zero, bit-set_of, bit-pow, bits-ext}
use Rattle.protocol.proofs.Says.{says_map, says-unique, says-eqb, says-leb}
use Rattle.protocol.proofs.Count.{stops, count_kept, count_next}
use Rattle.views.specs.Tally.{place_in, missing_in, waiting_in, own_in, Needed, Tallied, Signed, TallyOf}
use Rattle.views.proofs.Sets.{pow_small, set_of-lt, count-cong, set-without}
use Rattle.views.proofs.Views.{masked, at_most, member-masked, count_masked}

-- ---- counts

count-one : (n o : ℕ) (p q : ℕ → Bool) → o < n → p o ≡ false → q o ≡ true → ((k : ℕ) → k < n → (k ≡ o → ⊥) → q k ≡ p k) → count n q ≡ suc (count n p)
unfolding count
count-one zero o p q l e f h = absurd (omega arith)
count-one (suc n) o p q l e f h = elim (ℕ_discrete n o) [
  | yes d ↦ omega (arith, ap one (ap q d ∙ f), ap one (ap p d ∙ e), count-cong n q p (λ k m. h k (omega arith) (λ u. omega arith)))
  | no d ↦ omega (arith, ap one (h n (omega arith) d), count-one n o p q (omega arith) e f (λ k m. h k (omega arith)))
]

count_none : (n k : ℕ) (p : ℕ → Bool) → k < n → count n p ≡ 0 → p k ≡ false
unfolding count
count_none zero k p l e = absurd (omega arith)
count_none (suc n) k p l e = elim (ℕ_discrete n k) [
  | yes d ↦ ap p (sym d) ∙ one_none (p n) (omega arith)
  | no d ↦ count_none n k p (omega arith) (omega arith)
]
  where
    one_none : (b : Bool) → one b ≡ 0 → b ≡ false
    one_none true q = absurd (omega arith)
    one_none false q = refl

-- ---- one signer more

same-member : (m w e : Bool) → (T e → (m && not w) ≡ false) → (m && not w) ≡ (m && not (w || e))
same-member false w e h = refl
same-member true true e h = refl
same-member true false false h = refl
same-member true false true h = h tt

same-tally : (m w e : Bool) → (T e → (m && not w) ≡ false) → (m && (w || e)) ≡ (m && w)
same-tally false w e h = refl
same-tally true true e h = refl
same-tally true false false h = refl
same-tally true false true h = h tt

-- o is no member that waits
module _ {t : View} {who : ℕ → Bool} {x : ℕ} (o : ℕ) (a : Tallied t who x) (no : (k : ℕ) → k < 16 → T (eqb o k) → (member t k && not (who k)) ≡ false) where
  pub tallied-same : Tallied t (λ k. who k || eqb o k) x
  tallied-same = record {
    waiting = λ k l. a.waiting k l ∙ same-member (member t k) (who k) (eqb o k) (no k l);
    missing = λ h. omega (arith, a.missing h, count-cong 16 (λ k. member t k && (who k || eqb o k)) (λ k. member t k && who k) (λ k l. same-tally (member t k) (who k) (eqb o k) (no k l)));
    never = a.never;
  }

no_leb : (n : ℕ) → leb 1 n ≡ false → n ≡ 0
no_leb n e = omega (arith, ltb-of n e)
  where
    ltb-of : (n : ℕ) → leb 1 n ≡ false → n < 1
    ltb-of zero e = omega arith
    ltb-of (suc n) e = absurd (subst T e ((says-leb {m = 1} {n = suc n}).complete (omega arith)))

-- ---- the parts of a word

abbrev pub word : ℕ → ℕ → ℕ → ℕ → ℕ
word p m w a = p + m * 1024 + w * 65536 + a * 281474976710656

pub record Fields (p m w a x : ℕ) : Type 0 where
  pub place : place_in x ≡ p
  pub missing : missing_in x ≡ m
  pub waiting : waiting_in x ≡ w
  pub own : own_in x ≡ a

pub fields : (p m w a : ℕ) → p < 1024 → m < 64 → w < 4294967296 → Fields p m w a (word p m w a)
unfolding place_in missing_in waiting_in own_in
fields p m w a lp lm lw = record { place = omega arith; missing = omega arith; waiting = omega arith; own = omega arith }

parts : (x : ℕ) → x ≡ word (x % 1024) (x / 1024 % 64) (x / 65536 % 4294967296) (x / 281474976710656)
parts x = omega arith

mod-few : (x : ℕ) → missing_in x < 64
unfolding missing_in
mod-few x = omega arith

-- ---- the word of a tally that counts o

without : (m w e : Bool) → ((m && not w) && not e) ≡ (m && not (w || e))
without true true e = refl
without true false e = refl
without false w e = refl

-- who waits has not signed
waits-not : (m w : Bool) → (m && not w) ≡ true → (m && w) ≡ false
waits-not true false h = refl
waits-not true true h = sym h
waits-not false w h = refl

waits-member : (m w e : Bool) → (m && not w) ≡ true → e ≡ true → (m && (w || e)) ≡ true
waits-member true w true h f = or-true w
  where
    or-true : (w : Bool) → (true && (w || true)) ≡ true
    or-true true = refl
    or-true false = refl
waits-member true w false h f = absurd-bool f
  where
    absurd-bool : false ≡ true → (true && (w || false)) ≡ true
    absurd-bool q = absurd (subst (λ b. T (not b)) q tt)
waits-member false w e h f = h

aside : (m w e : Bool) → e ≡ false → (m && (w || e)) ≡ (m && w)
aside m true e h = refl
aside true false e h = h
aside false false e h = refl

pow-most : (o : ℕ) → o < 16 → 2 ^ o < 65536
pow-most o h = subst (λ n. 2 ^ o < n) refl (pow_small o h)

module _ (x o : ℕ) (small : o < 16) where
  -- the bit of o, where it stands in the word and among those who wait

  abbrev pub held : ℕ
  held = bit_and x (65536 * 2 ^ o)

  abbrev bit_of : ℕ
  bit_of = bit_and (waiting_in x) (2 ^ o)

  held-is : held ≡ 65536 * bit_of
  unfolding waiting_in
  held-is =
      let low : held % 65536 ≡ bit_and (x % 65536) (65536 * 2 ^ o % 65536) = and_mod x (65536 * 2 ^ o) 16 in
      let none : 65536 * 2 ^ o % 65536 ≡ 0 = omega arith in
      let high : held / 65536 ≡ bit_and (x / 65536) (65536 * 2 ^ o / 65536) = and_shr x (65536 * 2 ^ o) 16 in
      let pow : 65536 * 2 ^ o / 65536 ≡ 2 ^ o = omega arith in
      let part : bit_and (x / 65536) (2 ^ o) % 4294967296 ≡ bit_and (x / 65536 % 4294967296) (2 ^ o % 4294967296) = and_mod (x / 65536) (2 ^ o) 32 in
      let same : 2 ^ o % 4294967296 ≡ 2 ^ o = omega (arith, pow-most o small) in
      let whole : bit_and (x / 65536) (2 ^ o) ≡ bit_and (x / 65536 % 4294967296) (2 ^ o) = omega (arith, part ∙ ap (bit_and (x / 65536 % 4294967296)) same, and_le_r (x / 65536) (2 ^ o), pow-most o small) in
      omega (arith, low ∙ ap (bit_and (x % 65536)) none, and_le_r (x % 65536) 0, high ∙ ap (bit_and (x / 65536)) pow ∙ whole)

  waiting-small : waiting_in x < 2 ^ 32
  unfolding waiting_in
  waiting-small = omega arith

  bit-here : bit (2 ^ o) o ≡ true
  bit-here = bit-pow o o ∙ eq-eqb o o refl

  -- who does not wait has no bit there
  pub unheld : held ≡ 0 → bit (waiting_in x) o ≡ false
  unheld e = sym (and_one (bit (waiting_in x) o)) ∙ ap (λ b. bit (waiting_in x) o && b) (sym bit-here) ∙ sym (bit-and o (waiting_in x) (2 ^ o)) ∙ ap (λ n. bit n o) none ∙ bit-zero o
    where
      and_one : (b : Bool) → (b && true) ≡ b
      and_one true = refl
      and_one false = refl

      none : bit_of ≡ 0
      none = omega (arith, held-is, e)

  -- who has one waits
  pub holds : (held ≡ 0 → ⊥) → bit (waiting_in x) o ≡ true
  holds d = go (bit (waiting_in x) o) refl
    where
      nobody : bit (waiting_in x) o ≡ false → bit_of ≡ 0
      nobody f = bits-ext 32 (bit_and (waiting_in x) (2 ^ o)) 0 (omega (arith, and_le_l (waiting_in x) (2 ^ o), waiting-small)) (omega arith)
          (λ k l. bit-and k (waiting_in x) (2 ^ o) ∙ ap (λ b. bit (waiting_in x) k && b) (bit-pow k o) ∙ apart k (ℕ_discrete o k) ∙ sym (bit-zero k))
        where
          and_none : (b : Bool) → (b && false) ≡ false
          and_none true = refl
          and_none false = refl

          apart : (k : ℕ) → Dec (o ≡ k) → (bit (waiting_in x) k && eqb o k) ≡ false
          apart k (yes e) = ap (λ b. b && eqb o k) (ap (bit (waiting_in x)) (sym e) ∙ f)
          apart k (no n) = ap (λ b. bit (waiting_in x) k && b) (ne_eqb o k n) ∙ and_none (bit (waiting_in x) k)

      go : (b : Bool) → bit (waiting_in x) o ≡ b → b ≡ true
      go true e = refl
      go false e = absurd (d (omega (arith, held-is, nobody e)))

  module _ (place : ℕ) (few : place < 1024) (more : 0 < missing_in x) where
    abbrev pub next : ℕ
    next = x - held - x % 1024 + place - 1024

    fits : bit_of ≤ waiting_in x
    fits = and_le_l (waiting_in x) (2 ^ o)

    next-is : next ≡ word place (missing_in x - 1) (waiting_in x - bit_of) (own_in x)
    unfolding missing_in waiting_in own_in
    next-is = let e = parts x in omega (arith, e, held-is, fits, more, few)

    next-fields : Fields place (missing_in x - 1) (waiting_in x - bit_of) (own_in x) next
    next-fields = subst (Fields place (missing_in x - 1) (waiting_in x - bit_of) (own_in x)) (sym next-is)
        (fields place (missing_in x - 1) (waiting_in x - bit_of) (own_in x) few (omega (arith, missing-few)) (omega (arith, waiting-small)))
      where
        missing-few : missing_in x < 64
        missing-few = mod-few x

    -- o is counted
    module _ (d : held ≡ 0 → ⊥) (t : View) (who : ℕ → Bool) (a : Tallied t who x) where
      waits : (member t o && not (who o)) ≡ true
      waits = sym (a.waiting o small) ∙ holds d

      one_more : count 16 (λ k. member t k && (who k || eqb o k)) ≡ suc (count 16 (λ k. member t k && who k))
      one_more = count-one 16 o (λ k. member t k && who k) (λ k. member t k && (who k || eqb o k)) small (waits-not (member t o) (who o) waits)
          (waits-member (member t o) (who o) (eqb o o) waits (eq-eqb o o refl)) (λ k l n. aside (member t k) (who k) (eqb o k) (ne_eqb o k (λ e. n (sym e))))

      nobody : has_members 16 t ≡ false → ⊥
      unfolding member_count
      nobody h = subst T (sym (sym (ap (λ b. b && not (who o)) (count_none 16 o (member t) small (no_leb (member_count 16 t) h))) ∙ waits)) tt

      counted : Tallied t (λ k. who k || eqb o k) next
      counted = record {
        waiting = λ k l. ap (λ n. bit n k) (next-fields.waiting ∙ set-without 32 (waiting_in x) (2 ^ o) waiting-small) ∙ bit-set_of 32 (λ k. bit (waiting_in x) k && not (bit (2 ^ o) k)) k (omega arith)
            ∙ ap₂ (λ b e. b && not e) (a.waiting k l) (bit-pow k o) ∙ without (member t k) (who k) (eqb o k);
        missing = λ h. omega (arith, next-fields.missing, a.missing h, one_more, more);
        never = λ h. absurd (nobody h);
      }

    pub sign-counts : (held ≡ 0 → ⊥) → Signed x o place next
    sign-counts d = record { own = next-fields.own; either = inr next-fields.place; closed = λ z. absurd (omega (arith, more, z)); tallied = λ t who m a. counted d t who a }

-- ---- who is not counted

module _ (x o place : ℕ) where
  stays : ((t : View) (who : ℕ → Bool) → 0 < missing_in x → Tallied t who x → (k : ℕ) → k < 16 → T (eqb o k) → (member t k && not (who k)) ≡ false) → Signed x o place x
  stays f = record { own = refl; either = inl refl; closed = λ z. refl; tallied = λ t who m a. tallied-same o a (f t who m a) }

  pub sign-far : 16 ≤ o → Signed x o place x
  sign-far h = stays (λ t who m a k l e. let q : o ≡ k = says-eqb.sound e in absurd (omega arith))

  pub sign-passes : (l : o < 16) → held x o l ≡ 0 → Signed x o place x
  sign-passes l z = stays (λ t who m a k j e. let q : o ≡ k = says-eqb.sound e in sym (a.waiting k j) ∙ ap (bit (waiting_in x)) (sym q) ∙ unheld x o l z)

-- ---- the same in words of 64 bits, where a shift is cut off

module _ (x o place b : ℕ) (small : o < 16) (is : b ≡ bit_and x (65536 * 2 ^ o % 18446744073709551616)) where
  uncut : b ≡ held x o small
  uncut = is ∙ ap (bit_and x) (let e : 65536 * 2 ^ o % 18446744073709551616 ≡ 65536 * 2 ^ o = omega (arith, pow-most o small) in e)

  pub sub-fits : x % 1024 ≤ x - b
  sub-fits = omega (arith, uncut, held-is x o small, and_le_l x (65536 * 2 ^ o))

  pub code-passes : b ≡ 0 → Signed x o place x
  code-passes z = sign-passes x o place small (sym uncut ∙ z)

  module _ (few : place < 1024) (m : Bool) (known : m ≡ eqb (missing_in x) 0) (n : m ≡ false) where
    some : 0 < missing_in x
    some = elim (ℕ_discrete (missing_in x) 0) [
      | yes z ↦ absurd (subst T (sym (eq-eqb (missing_in x) 0 z) ∙ sym known ∙ n) tt)
      | no d ↦ omega arith
    ]

    pub code_fits : 1024 ≤ x - b - x % 1024 + place
    unfolding missing_in waiting_in
    code_fits = let e = parts x in omega (arith, e, uncut, held-is x o small, and_le_l (waiting_in x) (2 ^ o), some)

    pub code-counts : (b ≡ 0 → ⊥) → Signed x o place (x - b - x % 1024 + place - 1024)
    code-counts d = subst (λ h. Signed x o place (x - h - x % 1024 + place - 1024)) (sym uncut) (sign-counts x o small place few some (λ z. d (uncut ∙ z)))

-- ---- nobody signed

count-false : (n : ℕ) (m : ℕ → Bool) → count n (λ k. m k && false) ≡ 0
unfolding count
count-false zero m = refl
count-false (suc n) m = omega (arith, ap one (none (m n)), count-false n m)
  where
    none : (b : Bool) → (b && false) ≡ false
    none true = refl
    none false = refl

module _ (v t : View) (is : v ≡ masked t) (place own : ℕ) where
  pub unsigned_is : (missing members r : ℕ) → Needed v missing → members ≡ set_of 16 (member v) → place < 1024 → r ≡ word place missing members own → Tallied t (λ k. false) r × (place_in r ≡ place) × (own_in r ≡ own)
  unsigned_is missing members r need f few q = (
    record {
      waiting = λ k l. ap (λ x. bit x k) (got.waiting ∙ f) ∙ bit-set_of 16 (member v) k l ∙ ap (λ u. member u k) is ∙ member-masked t k l ∙ sym (and_one (member t k));
      missing = λ h. omega (arith, got.missing, need.some (has ∙ h) ∙ ap quorum same, count-false 16 (member t));
      never = λ h. got.missing ∙ need.none (has ∙ h);
    },
    got.place,
    got.own,
  )
    where
      and_one : (b : Bool) → (b && true) ≡ b
      and_one true = refl
      and_one false = refl

      same : member_count 16 v ≡ member_count 16 t
      same = ap (member_count 16) is ∙ count_masked t

      has : has_members 16 v ≡ has_members 16 t
      has = ap (leb 1) same

      got : Fields place missing members own r
      got = subst (Fields place missing members own) (sym q) (fields place missing members own few (omega (arith, need.few)) (omega (arith, f, set_of-lt 16 (member v))))

module _ (v : View) (q : ℕ) (is : q ≡ quorum (member_count 16 v)) where
  some-members : has_members 16 v ≡ true → 1 ≤ member_count 16 v
  some-members h = (says-leb {m = 1} {n = member_count 16 v}).sound (subst T (sym h) tt)

  pub needed-most : {r : ℕ} → r ≡ max q 1 → Needed v r
  unfolding quorum
  needed-most {r} e = record {
    some = λ h. omega (arith, is, some-members h);
    none = λ h. omega (arith, is, no_leb (member_count 16 v) h);
    few = omega (arith, is, at_most v);
  }

-- ---- what a tally says of a record

pointwise : {A B : Type 0} {f g : A → B} → ((a : A) → f a ≡ g a) → f ≡ g
pointwise h i a = h a i

-- a quorum signed just where none is missing
reached : {t : View} {who : ℕ → Bool} {x : ℕ} → Tallied t who x → has_quorum 16 t who ≡ eqb (missing_in x) 0
reached {t} {who} {x} a = go (has_members 16 t) refl
  where
    go : (b : Bool) → has_members 16 t ≡ b → (b && leb (quorum (member_count 16 t)) (tally 16 t who)) ≡ eqb (missing_in x) 0
    go true h = says-unique (says_map (λ l. let z : missing_in x ≡ 0 = omega (arith, a.missing h) in z) (λ z. omega (arith, a.missing h)) (says-leb {m = quorum (member_count 16 t)} {n = tally 16 t who})) says-eqb
    go false h = sym (ne_eqb (missing_in x) 0 (λ z. omega (arith, a.never h)))

-- where nobody signed, somebody is missing
pub some-missing : {t : View} {x : ℕ} → Tallied t (λ k. false) x → missing_in x ≡ 0 → ⊥
unfolding quorum
some-missing {t} a z = go (has_members 16 t) refl
  where
    go : (b : Bool) → has_members 16 t ≡ b → ⊥
    go true h = omega (arith, a.missing h, z, (says-leb {m = 1} {n = member_count 16 t}).sound (subst T (sym h) tt), count-false 16 (member t))
    go false h = omega (arith, a.never h, z)

module _ (t : View) (p : Stmt → Bool) where
  signs-nil : signs p [] ≡ (λ k. false)
  unfolding signs any
  signs-nil = refl

  any-after : {A : Type 0} (q : A → Bool) (X : List A) (a : A) → any q (X ++ (a ∷ [])) ≡ (any q X || q a)
  unfolding any
  any-after q [] a = or-none (q a)
    where
      or-none : (b : Bool) → (b || false) ≡ b
      or-none true = refl
      or-none false = refl
  any-after q (x ∷ X) a = ap (λ b. q x || b) (any-after q X a) ∙ or-or (q x) (any q X) (q a)
    where
      or-or : (a b c : Bool) → (a || (b || c)) ≡ ((a || b) || c)
      or-or true b c = refl
      or-or false b c = refl

  signs-pass : (X : List Stmt) (s : Stmt) → p s ≡ false → signs p (X ++ (s ∷ [])) ≡ signs p X
  unfolding signs
  signs-pass X s e = pointwise (λ k. any-after (λ s. eqb s.origin k && p s) X s ∙ off (signs p X k) (eqb s.origin k) (p s) e)
    where
      off : (a b c : Bool) → c ≡ false → (a || (b && c)) ≡ a
      off true b c h = refl
      off false true c h = h
      off false false c h = refl

  signs-more : (X : List Stmt) (s : Stmt) → p s ≡ true → signs p (X ++ (s ∷ [])) ≡ (λ k. signs p X k || eqb s.origin k)
  unfolding signs
  signs-more X s e = pointwise (λ k. any-after (λ s. eqb s.origin k && p s) X s ∙ ap (λ b. signs p X k || b) (on (eqb s.origin k) (p s) e))
    where
      on : (b c : Bool) → c ≡ true → (b && c) ≡ b
      on true c h = h
      on false c h = refl

  pub tally-first : (x : ℕ) → Tallied t (λ k. false) x → TallyOf t p [] x
  tally-first x a = record { waits = λ m. subst (λ w. Tallied t w x) (sym signs-nil) a; done = λ z. absurd (some-missing a z) }

  -- what it says, and how much was read

  pub tally-says : (X : List Stmt) (x : ℕ) → TallyOf t p X x → signed_by_quorum 16 X t p ≡ eqb (missing_in x) 0
  unfolding signed_by_quorum
  tally-says X x a = elim (ℕ_discrete (missing_in x) 0) [
    | yes z ↦ sym (stops 16 t p X).says ∙ ap (λ c. c.reached) (a.done z) ∙ sym (eq-eqb (missing_in x) 0 z)
    | no d ↦ reached (a.waits (omega arith))
  ]

  pub tally-all : (X : List Stmt) (x : ℕ) → TallyOf t p X x → (missing_in x ≡ 0 → ⊥) → count_quorum 16 t p X ≡ record { reached = false; read = length X }
  tally-all X x a d = ap₂ (λ b n. record { reached = b; read = n }) no ((stops 16 t p X).all (subst (λ b. T (not b)) (sym no) tt))
    where
      no : (count_quorum 16 t p X).reached ≡ false
      no = (stops 16 t p X).says ∙ tally-says X x a ∙ ne_eqb (missing_in x) 0 d

  -- one statement more

  module _ (X : List Stmt) (s : Stmt) (x : ℕ) (a : TallyOf t p X x) where
    kept : missing_in x ≡ 0 → count_quorum 16 t p (X ++ (s ∷ [])) ≡ record { reached = true; read = place_in x + 1 }
    kept z = count_kept 16 t p X (s ∷ []) (subst (λ c. T c.reached) (sym (a.done z)) tt) ∙ a.done z

    pub tally-pass : p s ≡ false → TallyOf t p (X ++ (s ∷ [])) x
    tally-pass e = record { waits = λ m. subst (λ w. Tallied t w x) (sym (signs-pass X s e)) (a.waits m); done = kept }

    pub tally-sign : (place r : ℕ) → length X ≡ place → p s ≡ true → Signed x s.origin place r → TallyOf t p (X ++ (s ∷ [])) r
    unfolding signed_by_quorum
    tally-sign place r len e g = elim (ℕ_discrete (missing_in x) 0) [
      | yes z ↦ subst (TallyOf t p (X ++ (s ∷ []))) (sym (g.closed z)) (record { waits = λ m. absurd (omega arith); done = kept })
      | no d ↦ record { waits = λ m. now d; done = complete d }
    ]
      where
        now : (missing_in x ≡ 0 → ⊥) → Tallied t (signs p (X ++ (s ∷ []))) r
        now d = subst (λ w. Tallied t w r) (sym (signs-more X s e)) (g.tallied t (signs p X) (omega arith) (a.waits (omega arith)))

        complete : (missing_in x ≡ 0 → ⊥) → missing_in r ≡ 0 → count_quorum 16 t p (X ++ (s ∷ [])) ≡ record { reached = true; read = place_in r + 1 }
        complete d z = ap₂ (λ b n. record { reached = b; read = n }) ((stops 16 t p (X ++ (s ∷ []))).says ∙ reached (now d) ∙ eq-eqb (missing_in r) 0 z)
            (count_next 16 t p X s (subst (λ c. T (not c.reached)) (sym (tally-all X x a d)) tt) ∙ at g.either)
          where
            at : (r ≡ x) ⊎ (place_in r ≡ place) → suc (length X) ≡ place_in r + 1
            at (inl q) = absurd (d (ap missing_in (sym q) ∙ z))
            at (inr q) = omega (arith, len, q)
