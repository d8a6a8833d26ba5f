-- What a scan of the record finds, by notice too, and the views of words as a history.
-- Assumes nothing.
use Rattle.std.specs.Prelude.{if◌then◌else◌}
use mathlib.Core.Path.{◌≡◌, refl, sym, ap, ap₂, subst, ◌∙◌}
use mathlib.Core.Bool.{Bool, true, false, ◌&&◌, ◌||◌, and-false, and_comm, and_assoc, or-false, true≢false}
use mathlib.Core.List.{List, [], ◌∷◌, ◌++◌, append-nil}
use Rattle.std.specs.Prelude.{Some, None}
use Rattle.views.specs.Options.{option_of}
use mathlib.Core.Option.{some, none}
use Prim.Native.Nat.{ℕ, zero, suc, ◌+◌, ◌≤◌, ◌<◌, min}
use native.Mathlib.Decide.{dec_lt, ℕ_discrete}
use native.Mathlib.Numerals.{add-one}
use native.Mathlib.Omega.{arith}
use lib.Dec.{eqb}
use lib.ListN.{length, get_or, take, set, length-set}
use lib.Seq.{length-take-le}
use Rattle.std.proofs.lemmas.List.{get_or-take}
use borrow.Author.Tests.{eq-eqb, ne_eqb, eqb-true}
use Rattle.protocol.specs.Sets.{bit}
use Rattle.protocol.specs.Lists.{any, filter, find, list_of, put}
use Rattle.protocol.specs.View.{View, same_view, member}
use Rattle.protocol.specs.Statement.{Stmt, same_stmt, is_kind, prepare}
use Rattle.protocol.proofs.Bits.{bit-zero}
use Rattle.protocol.proofs.Found.{none≢some}
use Rattle.protocol.proofs.Asked.{says-same-stmt}
use Rattle.views.specs.declared.View as held
use Rattle.views.specs.declared.History.{History}
use Rattle.views.specs.View.{view_of, view_in, views_in}
use Rattle.views.specs.Held.{view_is, held_at, views_is}
use Rattle.views.proofs.Tables.{any-zero, any-more}
use Rattle.views.proofs.Held.{views-of, cut-is}
use Rattle.statements.specs.Sets.{PutBit}
use Rattle.pool.specs.Pool.{stmt_at, word, payload_from, record_up_to, record_len}
use Rattle.pool.proofs.Laws.{plain-payload}
use Rattle.pool.proofs.Records as records
use Rattle.evidence.proofs.Listing.{any-among}
use Rattle.protocol.proofs.Says.{from-true}
use Rattle.rules.specs.Rules.{own_kind, own_at, own_of, own_of_at, prepared_by, prepared_in, sent_by, Owns, Marks, Picks, first_prepare}

-- ---- a loop over the front of a list

module _ (n : ℕ) (l : List ℕ) (i : ℕ) (few : n ≤ length l) where
  module _ (h : i < length (take n l)) where
    pub front-below : i < n
    front-below = omega (arith, length-take-le n l few)

    pub front-at : get_or (take n l) i 0 ≡ get_or l i 0
    front-at = get_or-take n l i 0 front-below

  pub front-end : i ≤ length (take n l) → length (take n l) ≤ i → i ≡ n
  front-end h k = omega (arith, length-take-le n l few)

-- the same of the numbers of a record
module _ (W ids : List ℕ) (end i : ℕ) (e : end ≡ record_len ids) (long : length ids ≡ 513) where
  within-record : end ≤ length ids
  within-record = omega arith

  module _ (l : i < length (take end ids)) where
    pub is-below : i < min (get_or ids 512 0) 512
    is-below = omega (arith, front-below end ids i within-record l)

    pub is-number : get_or (take end ids) i 0 ≡ get_or ids i 0
    is-number = front-at end ids i within-record l

    pub is-entry : stmt_at W (get_or (take end ids) i 0) ≡ records.entry W ids i
    is-entry = ap (stmt_at W) is-number

  pub is-end : i ≤ length (take end ids) → length (take end ids) ≤ i → i ≡ min (get_or ids 512 0) 512
  is-end h l = omega (arith, front-end end ids i within-record h l)

-- ---- one statement

module _ (s : Stmt) (k kind : ℕ) where
  pub own-not : (o : ℕ) → o ≡ s.origin → (o ≡ k → ⊥) → false ≡ own_kind k kind s
  unfolding own_kind
  own-not o e d = rw (sym e, ne_eqb o k d)

  pub own_is : (o x : ℕ) → o ≡ s.origin → o ≡ k → x ≡ s.kind → eqb x kind ≡ own_kind k kind s
  unfolding own_kind
  own_is o x e d f = rw (sym e, sym f, eq-eqb o k d)

  module _ (t : View) (b : Bool) (is : b ≡ own_kind k kind s) where
    at_both : (b && same_view s.at t) ≡ own_at k kind t s
    unfolding own_kind own_at
    at_both = ap (λ x. x && same_view s.at t) is ∙ and_assoc (eqb s.origin k) (eqb s.kind kind) (same_view s.at t)

    pub at-not : b ≡ false → false ≡ own_at k kind t s
    at-not f = ap (λ x. x && same_view s.at t) (sym f) ∙ at_both

    pub at-is : (r : Bool) → b ≡ true → r ≡ same_view s.at t → r ≡ own_at k kind t s
    at-is r f e = e ∙ ap (λ x. x && same_view s.at t) (sym f) ∙ at_both

and_left : (a b : Bool) → (a && b) ≡ true → a ≡ true
and_left true b e = refl
and_left false b e = e

-- what only a statement of k can pass
own_first : (s : Stmt) (k : ℕ) (b : Bool) → (eqb s.origin k && b) ≡ true → s.origin ≡ k
own_first s k b e = eqb-true s.origin k (and_left (eqb s.origin k) b e)

-- ---- the statements of one controller

module _ {X Y : List Stmt} {k : ℕ} (y : Owns X Y k) where
  pub owns-same : (a : Stmt) → a.origin ≡ k → any (same_stmt a) Y ≡ any (same_stmt a) X
  owns-same a e = y.asked (same_stmt a) (λ s t. ap (λ x. x.origin) (sym (says-same-stmt.sound (from-true t))) ∙ e)

  pub owns-at : (kind : ℕ) (t : View) → any (own_at k kind t) Y ≡ any (own_at k kind t) X
  unfolding own_at
  owns-at kind t = y.asked (own_at k kind t) (λ s e. own_first s k (eqb s.kind kind && same_view s.at t) e)

  pub owns_of : (kind i : ℕ) → any (own_of k kind i) Y ≡ any (own_of k kind i) X
  unfolding own_of
  owns_of kind i = y.asked (own_of k kind i) (λ s e. own_first s k (eqb s.kind kind && eqb s.notice i) e)

  pub owns-of-at : (kind : ℕ) (t : View) (i : ℕ) → any (own_of_at k kind t i) Y ≡ any (own_of_at k kind t i) X
  unfolding own_of_at
  owns-of-at kind t i = y.asked (own_of_at k kind t i) (λ s e. own_first s k (eqb s.kind kind && same_view s.at t && eqb s.notice i) e)

-- The statement is one of controller k.
unfoldable pub is_of : ℕ → Stmt → Bool
is_of k s = eqb s.origin k

pub of_is : (o k : ℕ) (s : Stmt) → o ≡ s.origin → eqb o k ≡ is_of k s
unfolding is_of
of_is o k s e = ap (λ x. eqb x k) e

pub owns-all : {X Y : List Stmt} {k : ℕ} → Y ≡ filter (is_of k) X → Owns X Y k
unfolding is_of
owns-all {X} {k = k} e = record { asked = λ p h. ap (any p) e ∙ any-among (is_of k) p X (λ s t. eq-eqb s.origin k (h s t)) }

-- ---- the notice of one statement

module _ (q : ℕ → Stmt → Bool) (s : Stmt) (only : (i : ℕ) → (s.notice ≡ i → ⊥) → q i s ≡ false) where
  -- a statement of another notice
  elsewhere : (r i : ℕ) → (s.notice ≡ i → ⊥) → (i ≡ r → ⊥) → q i s ≡ eqb i r
  elsewhere r i d n = only i d ∙ sym (ne_eqb i r n)

  pub picks-none : ((i : ℕ) → s.notice ≡ i → i < 64 → q i s ≡ false) → Picks q s None
  picks-none h = record { at = λ i l. elim (ℕ_discrete s.notice i) [ yes e ↦ h i e l | no d ↦ only i d ] }

  pub picks-one : (j : ℕ) → j ≡ s.notice → q j s ≡ true → Picks q s (Some j)
  picks-one j e h = record {
    at = λ i l. elim (ℕ_discrete s.notice i) [
      | yes d ↦ (let m : j ≡ i = omega arith in (rw m at h) ∙ sym (eq-eqb i j (sym m)))
      | no d ↦ elsewhere j i d (λ n. omega arith)
    ];
  }

-- each test of a notice asks for it last

last-false : (b : Bool) (m i : ℕ) → (m ≡ i → ⊥) → (b && eqb m i) ≡ false
last-false b m i d = ap (λ x. b && x) (ne_eqb m i d) ∙ and-false b

module _ (s : Stmt) (k kind : ℕ) where
  of_parts : (i : ℕ) → own_of k kind i s ≡ (own_kind k kind s && eqb s.notice i)
  unfolding own_of own_kind
  of_parts i = sym (and_assoc (eqb s.origin k) (eqb s.kind kind) (eqb s.notice i))

  of-only : (i : ℕ) → (s.notice ≡ i → ⊥) → own_of k kind i s ≡ false
  of-only i d = of_parts i ∙ last-false (own_kind k kind s) s.notice i d

  module _ (b : Bool) (is : b ≡ own_kind k kind s) where
    pub of_none : b ≡ false → Picks (own_of k kind) s None
    of_none f = picks-none (own_of k kind) s of-only (λ i e l. of_parts i ∙ ap (λ x. x && eqb s.notice i) (sym is ∙ f))

    pub of_one : b ≡ true → (j : ℕ) → j ≡ s.notice → Picks (own_of k kind) s (Some j)
    of_one f j e = picks-one (own_of k kind) s of-only j e (of_parts j ∙ ap₂ ◌&&◌ (sym is ∙ f) (eq-eqb s.notice j (sym e)))

  module _ (t : View) where
    of-at-parts : (i : ℕ) → own_of_at k kind t i s ≡ (own_at k kind t s && eqb s.notice i)
    unfolding own_of_at own_at
    of-at-parts i = sym (and_assoc (eqb s.origin k) (eqb s.kind kind && same_view s.at t) (eqb s.notice i))

    of-at-only : (i : ℕ) → (s.notice ≡ i → ⊥) → own_of_at k kind t i s ≡ false
    of-at-only i d = of-at-parts i ∙ last-false (own_at k kind t s) s.notice i d

    module _ (b : Bool) (is : b ≡ own_at k kind t s) where
      pub of-at-none : b ≡ false → Picks (own_of_at k kind t) s None
      of-at-none f = picks-none (own_of_at k kind t) s of-at-only (λ i e l. of-at-parts i ∙ ap (λ x. x && eqb s.notice i) (sym is ∙ f))

      pub of-at-one : b ≡ true → (j : ℕ) → j ≡ s.notice → Picks (own_of_at k kind t) s (Some j)
      of-at-one f j e = picks-one (own_of_at k kind t) s of-at-only j e (of-at-parts j ∙ ap₂ ◌&&◌ (sym is ∙ f) (eq-eqb s.notice j (sym e)))

-- ---- the first that is found

module _ {A : Type 0} (p : A → Bool) where
  find-join : (k l : List A) → any p k ≡ false → find p (k ++ l) ≡ find p l
  unfolding any find
  find-join [] l e = refl
  find-join (a ∷ k) l e = go (p a) e (λ f. find-join k l f)
    where
      go : (b : Bool) → (b || any p k) ≡ false → (any p k ≡ false → find p (k ++ l) ≡ find p l) → (if b then some a else find p (k ++ l)) ≡ find p l
      go true e ih = absurd (true≢false e)
      go false e ih = ih e

  find-before : (k l : List A) (a : A) → find p k ≡ some a → find p (k ++ l) ≡ some a
  unfolding find
  find-before [] l a e = absurd (none≢some e)
  find-before (x ∷ k) l a e = go (p x) e (λ f. find-before k l a f)
    where
      go : (b : Bool) → (if b then some x else find p k) ≡ some a → (find p k ≡ some a → find p (k ++ l) ≡ some a) → (if b then some x else find p (k ++ l)) ≡ some a
      go true e ih = e
      go false e ih = ih e

  pub find-nothing : (l : List A) → any p l ≡ false → find p l ≡ none
  unfolding any find
  find-nothing l e = ap (find p) (sym (append-nil l)) ∙ find-join l [] e

  find-last : (l : List A) (a : A) → any p l ≡ false → p a ≡ true → find p (l ++ (a ∷ [])) ≡ some a
  unfolding find
  find-last l a e g = find-join l (a ∷ []) e ∙ ap (λ b. if b then some a else none) g

  pub find_at : (f : ℕ → A) (n i : ℕ) → i < n → any p (list_of i f) ≡ false → p (f i) ≡ true → find p (list_of n f) ≡ some (f i)
  unfolding list_of
  find_at f zero i l e g = absurd (omega arith)
  find_at f (suc n) i l e g = elim (dec_lt i n) [
    | yes m ↦ find-before (list_of n f) (f n ∷ []) (f i) (find_at f n i m e g)
    | no m ↦ (let q : i ≡ n = omega arith in find-last (list_of n f) (f n) (rw q at e) (rw q at g) ∙ ap (λ j. some (f j)) (sym q))
  ]

-- ---- prepares

module _ (s : Stmt) (k i : ℕ) (b : Bool) (is : b ≡ own_kind k 6 s) where
  by-own : prepared_by k i s ≡ (b && eqb s.notice i)
  unfolding prepared_by is_kind own_kind
  by-own = ap (λ x. x && eqb s.notice i) (and_comm (eqb s.kind 6) (eqb s.origin k) ∙ sym is)

  pub prepare-not : b ≡ false → false ≡ prepared_by k i s
  prepare-not f = sym (by-own ∙ ap (λ x. x && eqb s.notice i) f)

  pub prepare-is : (j : ℕ) → b ≡ true → j ≡ s.notice → eqb j i ≡ prepared_by k i s
  prepare-is j f e = ap (λ x. eqb x i) e ∙ sym (by-own ∙ ap (λ x. x && eqb s.notice i) f)

module _ (t : View) (S : List ℕ) (s : Stmt) where
  in-only : (i : ℕ) → (s.notice ≡ i → ⊥) → prepared_in t S i s ≡ false
  unfolding prepared_in prepared_by
  in-only i d = ap (λ x. member t (get_or S i 0) && x) (last-false (is_kind 6 s && eqb s.origin (get_or S i 0)) s.notice i d) ∙ and-false (member t (get_or S i 0))

  pub in-far : (j : ℕ) → j ≡ s.notice → 64 ≤ j → Picks (prepared_in t S) s None
  in-far j e h = picks-none (prepared_in t S) s in-only (λ i q l. absurd (omega arith))

  module _ (j : ℕ) (e : j ≡ s.notice) (b : Bool) (own : b ≡ own_kind (get_or S j 0) 6 s) where
    in_parts : prepared_in t S j s ≡ (member t (get_or S j 0) && (b && eqb s.notice j))
    unfolding prepared_in
    in_parts = ap (λ x. member t (get_or S j 0) && x) (by-own s (get_or S j 0) j b own)

    in-not : prepared_in t S j s ≡ false → Picks (prepared_in t S) s None
    in-not f = picks-none (prepared_in t S) s in-only (λ i q l. ap (λ i. prepared_in t S i s) (sym (e ∙ q)) ∙ f)

    module _ (m : Bool) (is : m ≡ member t (get_or S j 0)) where
      pub in-outside : (b && m) ≡ false → Picks (prepared_in t S) s None
      in-outside f = in-not (in_parts ∙ ap (λ x. x && (b && eqb s.notice j)) (sym is) ∙ sym (and_assoc m b (eqb s.notice j)) ∙ ap (λ x. x && eqb s.notice j) (and_comm m b ∙ f))

      pub in_one : (b && m) ≡ true → Picks (prepared_in t S) s (Some j)
      in_one f = picks-one (prepared_in t S) s in-only j e (in_parts ∙ ap (λ x. x && (b && eqb s.notice j)) (sym is) ∙ sym (and_assoc m b (eqb s.notice j)) ∙ ap₂ ◌&&◌ (and_comm m b ∙ f) (eq-eqb s.notice j (sym e)))

-- the prepare that was requested

module _ (k : ℕ) (P : List ℕ) (s : Stmt) where
  sent_is : (i : ℕ) → sent_by k P i s ≡ true → prepare k i (get_or P i 0) ≡ s
  unfolding sent_by
  sent_is i e = says-same-stmt.sound (from-true e)

  not-sent : (i : ℕ) → (sent_by k P i s ≡ true → ⊥) → sent_by k P i s ≡ false
  not-sent i h = go (sent_by k P i s) refl
    where
      go : (b : Bool) → sent_by k P i s ≡ b → b ≡ false
      go true e = absurd (h e)
      go false e = refl

  sent-only : (i : ℕ) → (s.notice ≡ i → ⊥) → sent_by k P i s ≡ false
  sent-only i d = not-sent i (λ e. d (ap (λ x. x.notice) (sym (sent_is i e))))

  pub sent-other : (x : ℕ) → x ≡ s.kind → (x ≡ 6 → ⊥) → Picks (sent_by k P) s None
  sent-other x e d = picks-none (sent_by k P) s sent-only (λ i q l. not-sent i (λ f. d (e ∙ ap (λ x. x.kind) (sym (sent_is i f)))))

  pub sent-far : (j : ℕ) → j ≡ s.notice → 64 ≤ j → Picks (sent_by k P) s None
  sent-far j e h = picks-none (sent_by k P) s sent-only (λ i q l. absurd (omega arith))

  -- st is the prepare, and b the answer to whether s is st
  module _ (j : ℕ) (e : j ≡ s.notice) (b : Bool) {st : Stmt} (made : st ≡ prepare k j (get_or P j 0)) (is : b ≡ same_stmt st s) where
    same_sent : b ≡ sent_by k P j s
    unfolding sent_by
    same_sent = is ∙ ap (λ x. same_stmt x s) made

    pub sent-not : b ≡ false → Picks (sent_by k P) s None
    sent-not f = picks-none (sent_by k P) s sent-only (λ i q l. (let m : j ≡ i = e ∙ q in ap (λ x. sent_by k P x s) (sym m) ∙ sym same_sent ∙ f))

    pub sent-one : b ≡ true → Picks (sent_by k P) s (Some j)
    sent-one f = picks-one (sent_by k P) s sent-only j e (sym same_sent ∙ f)

-- ---- the first prepare

prepare-plain : (s : Stmt) (k i : ℕ) → prepared_by k i s ≡ true → eqb s.kind 5 ≡ false
unfolding prepared_by is_kind
prepare-plain s k i e = let q : s.kind ≡ 6 = eqb-true s.kind 6 (and_left (eqb s.kind 6) (eqb s.origin k) (and_left (eqb s.kind 6 && eqb s.origin k) (eqb s.notice i) e)) in ne_eqb s.kind 5 (λ d. omega arith)

module _ (W ids : List ℕ) (sender j len i : ℕ) (so_far : any (prepared_by sender j) (record_up_to W ids i) ≡ false) where
  pub prepare-first : (m : ℕ) → i < min len 512 → prepared_by sender j (records.entry W ids i) ≡ true → m ≡ word W (get_or ids i 0) payload_from
      → Some m ≡ option_of (first_prepare sender j (record_up_to W ids len))
  unfolding first_prepare record_up_to
  prepare-first m l e q =
      rw (find_at (prepared_by sender j) (records.entry W ids) (min len 512) i l (rw (records.so_far W ids i (omega arith)) at so_far) e)
      (ap Some (q ∙ sym (plain-payload W (get_or ids i 0) (prepare-plain (records.entry W ids i) sender j e))))

  pub prepare-none : i ≡ min len 512 → None ≡ option_of (first_prepare sender j (record_up_to W ids len))
  unfolding first_prepare
  prepare-none l = rw (find-nothing (prepared_by sender j) (record_up_to W ids len) (records.none W ids (prepared_by sender j) len i l so_far))

-- ---- a loop that marks notices

marked : (b c : Bool) → (if c then true else b) ≡ (b || c)
marked true true = refl
marked true false = refl
marked false true = refl
marked false false = refl

module _ (q : ℕ → Stmt → Bool) (W ids : List ℕ) where
  pub marks-first : Marks q (record_up_to W ids 0) 0
  marks-first = record { bits = λ i l. bit-zero i ∙ sym (records.none_first W ids (q i)) }

  pub marks-next : {i set j r : ℕ} → i < 512 → Marks q (record_up_to W ids i) set → Picks q (records.entry W ids i) (Some j) → PutBit set j true r → Marks q (record_up_to W ids (i + 1)) r
  unfolding put
  marks-next {i} {set} {j} l m p b = record {
    bits = λ n h. b.bits n h ∙ marked (bit set n) (eqb n j) ∙ ap₂ ◌||◌ (m.bits n h) (sym (p.at n h)) ∙ sym (records.any_next W ids (q n) i l);
  }

  pub marks-none : {i set : ℕ} → i < 512 → Marks q (record_up_to W ids i) set → Picks q (records.entry W ids i) None → Marks q (record_up_to W ids (i + 1)) set
  marks-none {i} {set} l m p = record {
    bits = λ n h. m.bits n h ∙ sym (or-false (any (q n) (record_up_to W ids i))) ∙ ap (λ b. any (q n) (record_up_to W ids i) || b) (sym (p.at n h)) ∙ sym (records.any_next W ids (q n) i l);
  }

  pub marks-whole : (len i r : ℕ) → i ≡ min len 512 → Marks q (record_up_to W ids i) r → Marks q (record_up_to W ids len) r
  marks-whole len i r e m = rw (records.whole W ids len i e) at m

-- at the view of a word
pub marks-at : (k kind u : ℕ) {set : ℕ} {v : View} {Y : List Stmt} → view_of u ≡ v → Marks (own_of_at k kind (view_of u)) Y set → Marks (own_of_at k kind v) Y set
marks-at k kind u {set = set} {Y = Y} e m = subst (λ v. Marks (own_of_at k kind v) Y set) e m

-- ---- words as a history

-- the first i places of l hold the views of the first i words of W
pub record Slots (l : List held.View) (W : List ℕ) (i : ℕ) : Type 0 where
  pub size : length l ≡ 16
  pub same : list_of i (held_at l) ≡ views_in W i

slots-grown : (W : List ℕ) (i : ℕ) → views_in W (i + 1) ≡ views_in W i ++ (view_in (get_or W i 0) ∷ [])
unfolding views_in list_of
slots-grown W i = rw add-one

module _ {l : List held.View} {W : List ℕ} where
  pub slots-none : length l ≡ 16 → Slots l W 0
  unfolding list_of views_in
  slots-none s = record { size = s; same = refl }

  pub slots_next : {i : ℕ} (v : held.View) → i < 16 → view_is v ≡ view_in (get_or W i 0) → Slots l W i → Slots (set l i v) W (i + 1)
  slots_next {i} v h e s = record {
    size = length-set l i v ∙ s.size;
    same = views-of made (i + 1) (omega arith) ∙ cut-is l i v made s.size h refl refl ∙ ap₂ (λ k u. k ++ (u ∷ [])) s.same e ∙ sym (slots-grown W i);
  }
    where
      made : History
      made = record { views = set l i v; len = i + 1 }

  pub slots-whole : (n i : ℕ) → i ≡ n → n ≤ 16 → Slots l W i → views_is (record { views = l; len = n }) ≡ views_in W n
  slots-whole n i e h s = sym (views-of (record { views = l; len = n }) n (omega arith)) ∙ (rw e at s.same)

-- ---- the first of the views of words that has p

module _ (p : View → Bool) (W : List ℕ) where
  pub slots-any-none : any p (views_in W 0) ≡ false
  unfolding views_in
  slots-any-none = any-zero p _

  pub slots-any-more : (i : ℕ) → any p (views_in W i) ≡ false → p (view_in (get_or W i 0)) ≡ false → any p (views_in W (i + 1)) ≡ false
  unfolding views_in
  slots-any-more i e g = any-more p _ i e g

  pub slots-found : (n i : ℕ) (v : held.View) → i < n → any p (views_in W i) ≡ false → p (view_in (get_or W i 0)) ≡ true → view_is v ≡ view_in (get_or W i 0) → some (view_is v) ≡ find p (views_in W n)
  unfolding views_in
  slots-found n i v l e g q = ap some q ∙ sym (find_at p (λ j. view_in (get_or W j 0)) n i l e g)

  pub slots-nothing : (n i : ℕ) → i ≡ n → any p (views_in W i) ≡ false → none ≡ find p (views_in W n)
  slots-nothing n i q e = sym (find-nothing p (views_in W n) (rw q at e))
