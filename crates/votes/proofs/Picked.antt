-- Laws of the groups that go into the tables: the tests of one group, and one group more.
-- Assumes nothing.
use mathlib.Core.Path.{◌≡◌, refl, sym, ap, ap₂, subst, ◌∙◌}
use mathlib.Core.Bool.{Bool, true, false, not, ◌&&◌, or-false}
use mathlib.Core.List.{List}
use Prim.Native.Nat.{ℕ, ◌+◌, ◌≤◌, ◌<◌}
use native.Mathlib.Decide.{ℕ_discrete, dec_lt}
use native.Mathlib.Omega.{arith}
use lib.Dec.{T, eqb}
use lib.ListN.{get_or}
use borrow.Author.Tests.{eq-eqb, ne_eqb}
use Rattle.protocol.specs.Lists.{any}
use Rattle.protocol.specs.View.{View, Ring, same_view, has_members, within, below}
use Rattle.protocol.specs.History.{top, is_history}
use Rattle.protocol.specs.Statement.{Stmt, is_kind, agrees_view, agrees_history}
use Rattle.protocol.specs.Evidence.{wished, signed_by_quorum}
use Rattle.views.specs.View.{view_of, ring_of_word}
use Rattle.views.specs.Tally.{place_in, missing_in}
use Rattle.views.proofs.Tallies.{tally-says}
use Rattle.views.proofs.Views.{same-yes, same-no, view-inj}
use Rattle.pool.specs.Pool.{record_in}
use Rattle.std.specs.Prelude.{Option, Some, None}
use Rattle.tables.specs.Index.{key_at, number_at, SameRows, SameKeys, Empty, RowAdded}
use Rattle.tables.proofs.Chains.{indexed-first, indexed-kept, rows-again, keys-again, rows_same, keys-same}
use Rattle.protocol.proofs.Says.{from-true}
use Rattle.votes.specs.Votes.{alike, entry, tag_by, vote_at, GroupCounts, GroupsIn}
use Rattle.votes.specs.Tables.{IsWord}
use Rattle.votes.specs.Chosen.{choice_by, agreement_by, is_choice, is_agreement, Picked, GroupRow, GroupRows, Answers, WordIf, OtherTables}
use Rattle.votes.proofs.Alike.{no-T, tag-low}

-- ---- three tests in a row: all but the last, and the first two that fail

module _ (a b c : Bool) {r : Bool} where
  pub all-but-last : a ≡ true → b ≡ true → r ≡ c → r ≡ ((a && b) && c)
  all-but-last p q e = rw (p, q) e

  pub second-fails : a ≡ true → r ≡ b → r ≡ false → r ≡ ((a && b) && c)
  second-fails p e f = let q : b ≡ false = sym e ∙ f in rw (p, q) f

  pub first-fails : a ≡ false → r ≡ false → r ≡ ((a && b) && c)
  first-fails p f = rw p f

-- ---- the tests of one group, whose owner's bits are the tag of its votes

-- the kind of a vote for a view or a history, by its tag
kind-by-tag : (s : Stmt) (k n : ℕ) → n < 7 → k ≡ tag_by s → is_kind n s ≡ eqb k n
unfolding is_kind
kind-by-tag s k n l e = elim (ℕ_discrete k n) [
  | yes q ↦ eq-eqb s.kind n ((tag-low s k n l e).1 q) ∙ sym (eq-eqb k n q)
  | no d ↦ ne_eqb s.kind n (λ q. d ((tag-low s k n l e).0 q)) ∙ sym (ne_eqb k n d)
]

module _ (s : Stmt) (own : ℕ) (complete b : Bool) (tag : own ≡ tag_by s) where
  -- b says whether a quorum agrees to it
  module _ (n : ℕ) (l : n < 7) (e : b ≡ (eqb own n && complete)) where
    kind-told : (is_kind n s && complete) ≡ b
    kind-told = ap (λ k. k && complete) (kind-by-tag s own n l tag) ∙ sym e

  pub choice-not : (w : View) → b ≡ (eqb own 3 && complete) → b ≡ false → false ≡ choice_by w complete s
  unfolding choice_by
  choice-not w e f = let h : (is_kind 3 s && complete) ≡ false = kind-told 3 (omega arith) e ∙ f in rw h

  pub choice-told : (t v wish : ℕ) (r : Bool) → b ≡ (eqb own 3 && complete) → b ≡ true → view_of t ≡ s.at → view_of v ≡ s.view
      → r ≡ ((below 16 (view_of t) (view_of v) && has_members 16 (view_of v)) && within 16 (view_of v) (view_of wish)) → r ≡ choice_by (view_of wish) complete s
  unfolding choice_by
  choice-told t v wish r e f at to q = let h : (is_kind 3 s && complete) ≡ true = kind-told 3 (omega arith) e ∙ f in rw (h, ← at, ← to) q

  pub agreement-not : (R : Ring) → b ≡ (eqb own 4 && complete) → b ≡ false → false ≡ agreement_by R complete s
  unfolding agreement_by
  agreement-not R e f = let h : (is_kind 4 s && complete) ≡ false = kind-told 4 (omega arith) e ∙ f in rw h

  pub agreement-told : (R : Ring) (t : View) (r : Bool) → b ≡ (eqb own 4 && complete) → b ≡ true → t ≡ s.at
      → r ≡ ((any (same_view t) s.views && not (same_view t (top R s.views))) && is_history R s.views) → r ≡ agreement_by R complete s
  unfolding agreement_by
  agreement-told R t r e f at q = let h : (is_kind 4 s && complete) ≡ true = kind-told 4 (omega arith) e ∙ f in rw (h, ← at) q

other-kind : (s : Stmt) (n : ℕ) → (s.kind ≡ n → ⊥) → is_kind n s ≡ false
unfolding is_kind
other-kind s n d = ne_eqb s.kind n d

-- a test of views in words

-- whether the top of a history is another view than t
pub top-other : (r t : ℕ) (v : View) → view_of r ≡ v → IsWord r → IsWord t → not (eqb r t) ≡ not (same_view (view_of t) v)
top-other r t v f p q = elim (ℕ_discrete r t) [
  | yes e ↦ rw (eq-eqb r t e) (sym (ap not (same-yes (view_of t) v (ap view_of (sym e) ∙ f))))
  | no d ↦ rw (ne_eqb r t d) (sym (ap not (same-no (view_of t) v (λ z. d (view-inj r t p q (f ∙ sym z))))))
]

-- ---- what is like a vote of each kind

module _ (a x : Stmt) where
  pub alike-view : a.kind ≡ 3 → alike a x ≡ agrees_view a.at a.view x
  unfolding alike is_kind
  alike-view k = rw (eq-eqb a.kind 3 k, ne_eqb a.kind 4 (λ q. omega arith), ne_eqb a.kind 7 (λ q. omega arith), ne_eqb a.kind 8 (λ q. omega arith))
      (or-false _ ∙ or-false _ ∙ or-false _)

  pub alike-history : a.kind ≡ 4 → alike a x ≡ agrees_history a.at a.views x
  unfolding alike is_kind
  alike-history k = rw (ne_eqb a.kind 3 (λ q. omega arith), eq-eqb a.kind 4 k, ne_eqb a.kind 7 (λ q. omega arith), ne_eqb a.kind 8 (λ q. omega arith))
      (or-false _ ∙ or-false _)

-- a group says whether a quorum signed what is like its vote
pub signed-as : (X : List Stmt) (a : Stmt) (x : ℕ) (p : Stmt → Bool) → GroupCounts x a X → ((s : Stmt) → alike a s ≡ p s) → eqb (missing_in x) 0 ≡ signed_by_quorum 16 X a.at p
signed-as X a x p c e = sym (tally-says a.at (alike a) X x c) ∙ ap (signed_by_quorum 16 X a.at) (λ i s. e s i)

-- ---- the test of a group

module _ (init : ℕ) (X : List Stmt) (s : Stmt) (x : ℕ) (by : GroupCounts x s X) where
  pub choice-is : (wish : ℕ) (r : Bool) → view_of wish ≡ wished (ring_of_word init) X → r ≡ choice_by (view_of wish) (eqb (missing_in x) 0) s → r ≡ is_choice (ring_of_word init) X s
  unfolding choice_by is_choice
  choice-is wish r e f = f ∙ go (ℕ_discrete s.kind 3)
    where
      go : Dec (s.kind ≡ 3) → choice_by (view_of wish) (eqb (missing_in x) 0) s ≡ is_choice (ring_of_word init) X s
      go (yes k) = ap₂ (λ w b. is_kind 3 s && b && below 16 s.at s.view && has_members 16 s.view && within 16 s.view w) e
          (signed-as X s x (agrees_view s.at s.view) by (λ a. alike-view s a k))
      go (no k) = rw (other-kind s 3 k)

  pub agreement-is : (r : Bool) → r ≡ agreement_by (ring_of_word init) (eqb (missing_in x) 0) s → r ≡ is_agreement (ring_of_word init) X s
  unfolding agreement_by is_agreement
  agreement-is r f = f ∙ go (ℕ_discrete s.kind 4)
    where
      go : Dec (s.kind ≡ 4) → agreement_by (ring_of_word init) (eqb (missing_in x) 0) s ≡ is_agreement (ring_of_word init) X s
      go (yes k) = ap (λ b. is_kind 4 s && b && any (same_view s.at) s.views && not (same_view s.at (top (ring_of_word init) s.views)) && is_history (ring_of_word init) s.views)
          (signed-as X s x (agrees_history s.at s.views) by (λ a. alike-history s a k))
      go (no k) = rw (other-kind s 4 k)

-- ---- one group more

module _ (P : ℕ → Bool) where
  pub picked_first : (Row : ℕ → ℕ → Type 0) → Picked P Row 0 0
  picked_first Row = record { fewer = omega arith; sound = λ c l. absurd (omega arith); complete = λ g l. absurd (omega arith) }

  pub picked-skip : {Row : ℕ → ℕ → Type 0} {n m : ℕ} (r : Bool) → r ≡ P n → r ≡ false → Picked P Row n m → Picked P Row (n + 1) m
  picked-skip {Row} {n} {m} r e f p = record {
    fewer = omega (arith, p.fewer);
    sound = λ c l. let (g, k, t, w) = p.sound c l in (g, omega arith, t, w);
    complete = λ g l t. at g t (dec_lt g n) (omega arith);
  }
    where
      at : (g : ℕ) → T (P g) → Dec (g < n) → g ≤ n → (c : ℕ) × (c < m) × Row c g
      at g t (yes k) l = p.complete g k t
      at g t (no k) l = let q : g ≡ n = omega arith in absurd (no-T (ap P q ∙ sym e ∙ f) t)

  pub picked-take : {Row Row' : ℕ → ℕ → Type 0} {n m : ℕ} (r : Bool) → r ≡ P n → r ≡ true → ((c g : ℕ) → c < m → Row c g → Row' c g) → Row' m n → Picked P Row n m → Picked P Row' (n + 1) (m + 1)
  picked-take {Row} {Row'} {n} {m} r e f old new p = record {
    fewer = omega (arith, p.fewer);
    sound = λ c l. from c (dec_lt c m) (omega arith);
    complete = λ g l t. at g t (dec_lt g n) (omega arith);
  }
    where
      from : (c : ℕ) → Dec (c < m) → c ≤ m → (g : ℕ) × (g < n + 1) × T (P g) × Row' c g
      from c (yes k) l = let (g, h, t, w) = p.sound c k in (g, omega arith, t, old c g k w)
      from c (no k) l = let q : c ≡ m = omega arith in (n, omega arith, from-true (sym e ∙ f), rw q new)

      at : (g : ℕ) → T (P g) → Dec (g < n) → g ≤ n → (c : ℕ) × (c < m + 1) × Row' c g
      at g t (yes k) l = let (c, h, w) = p.complete g k t in (c, omega arith, old c g h w)
      at g t (no k) l = let q : g ≡ n = omega arith in (m, omega arith, rw q new)

-- ---- the rows

-- row m of table t was added, and row c is not it
other_key : {K R K' R' : List ℕ} {t m w x c : ℕ} → RowAdded K R t m w x K' R' → m < 512 → c < m → key_at K' t c ≡ key_at K t c
other_key put l h = put.keys _ (omega arith) (λ d. omega arith)

other-number : {K R K' R' : List ℕ} {t m w x c : ℕ} → RowAdded K R t m w x K' R' → m < 512 → c < m → number_at R' t c ≡ number_at R t c
other-number put l h = put.numbers _ (omega arith) (λ d. omega arith)

row_keeps : {W ids G : List ℕ} {t : ℕ} {of : Stmt → View} {K R K' R' : List ℕ} {m w x : ℕ} → RowAdded K R t m w x K' R' → m < 512 → (c g : ℕ) → c < m → GroupRow W ids G t of K R c g → GroupRow W ids G t of K' R' c g
row_keeps put l c g h r =
    let e = other_key put l h in
    record { view = rw e r.view; word = rw e r.word; statement = other-number put l h ∙ r.statement }

-- the first vote of group g stands at place p
row_new : {W ids G : List ℕ} {t : ℕ} {of : Stmt → View} {K R K' R' : List ℕ} {m w x g p : ℕ} → RowAdded K R t m w x K' R' → p ≡ place_in (get_or G g 0) → view_of w ≡ of (entry W ids p) → IsWord w → x ≡ get_or ids p 0
    → GroupRow W ids G t of K' R' m g
row_new {W} {ids} {of = of} put at e h q = record { view = ap view_of put.key ∙ e ∙ ap (λ z. of (entry W ids z)) at; word = rw put.key h; statement = put.number ∙ q ∙ ap (λ z. get_or ids z 0) at }

module _ {W ids G : List ℕ} {t : ℕ} {of : Stmt → View} {test : Stmt → Bool} where
  pub rows-first : {K R : List ℕ} → Empty R t → GroupRows W ids G t of test 0 K R 0
  rows-first e = record { index = indexed-first e; picked = picked_first _ _ }

  module _ {K R : List ℕ} {g m : ℕ} (r : Bool) (is : r ≡ test (vote_at W ids G g)) where
    pub rows-skip : r ≡ false → GroupRows W ids G t of test g K R m → GroupRows W ids G t of test (g + 1) K R m
    rows-skip f w = record { index = w.index; picked = picked-skip _ r is f w.picked }

    pub rows_take : {K' R' : List ℕ} {p w x : ℕ} → r ≡ true → m < 512 → RowAdded K R t m w x K' R' → p ≡ place_in (get_or G g 0) → view_of w ≡ of (entry W ids p) → IsWord w → x ≡ get_or ids p 0
        → GroupRows W ids G t of test g K R m → GroupRows W ids G t of test (g + 1) K' R' (m + 1)
    rows_take f l put at e h q w = record { index = put.indexed w.index; picked = picked-take _ r is f (row_keeps put l) (row_new put at e h q) w.picked }

  pub rows-kept : {K R K' R' : List ℕ} {n m : ℕ} → SameKeys K K' t → SameRows R R' t → GroupRows W ids G t of test n K R m → GroupRows W ids G t of test n K' R' m
  rows-kept {K} {R} {K'} {R'} {n} {m} keys rows w = record {
    index = indexed-kept keys rows w.index;
    picked = record {
      fewer = w.picked.fewer;
      sound = λ i l. let (g, h, t, r) = w.picked.sound i l in (g, h, t, row i l g r);
      complete = λ g h t. let (i, l, r) = w.picked.complete g h t in (i, l, row i l g r);
    };
  }
    where
      row : (i : ℕ) → i < m → (g : ℕ) → GroupRow W ids G t of K R i g → GroupRow W ids G t of K' R' i g
      row i l g r =
          let h : i < 512 = omega (arith, w.index.few) in
          let e = keys.key i h in
          record { view = rw e r.view; word = rw e r.word; statement = rows.number i h ∙ r.statement }

  -- all groups
  pub rows_all : {K R : List ℕ} {g n m : ℕ} → g ≡ n → GroupRows W ids G t of test g K R m → GroupRows W ids G t of test n K R m
  rows_all {K} {R} {m = m} e w = subst (λ k. GroupRows W ids G t of test k K R m) e w

-- ---- what is answered of a group

pub word-if : {b c : Bool} {v : View} {w : ℕ} → c ≡ b → c ≡ true → view_of w ≡ v → IsWord w → WordIf b v (Some w)
word-if {b} {c} {v} {w} e f h l = record { some = λ x p. let q : w ≡ x = cc in (sym e ∙ f, subst (λ x. view_of x ≡ v) q h, subst IsWord q l); none = λ p. absurd (cc) }

pub word-not : (v : View) {b c : Bool} → c ≡ b → c ≡ false → WordIf b v None
word-not v e f = record { some = λ x p. absurd (cc); none = λ p. sym e ∙ f }

module _ (W ids : List ℕ) (init : ℕ) (G : List ℕ) {n : ℕ} (groups : GroupsIn W ids G n) {g : ℕ} (l : g < n) where
  module _ {w : ℕ} where
    pub choice-in : (wish : ℕ) → view_of wish ≡ wished (ring_of_word init) (record_in W ids) → WordIf (choice_by (view_of wish) (eqb (missing_in (get_or G g 0)) 0) (vote_at W ids G g)) (vote_at W ids G g).view (Some w)
        → (is_choice (ring_of_word init) (record_in W ids) (vote_at W ids G g) ≡ true) × (view_of w ≡ (vote_at W ids G g).view) × IsWord w
    choice-in wish e f = let (b, v, h) = f.some w refl in (sym (choice-is init (record_in W ids) (vote_at W ids G g) (get_or G g 0) (groups.counts g l) wish true e (sym b)), v, h)

    pub agreement-in : WordIf (agreement_by (ring_of_word init) (eqb (missing_in (get_or G g 0)) 0) (vote_at W ids G g)) (top (ring_of_word init) (vote_at W ids G g).views) (Some w)
        → (is_agreement (ring_of_word init) (record_in W ids) (vote_at W ids G g) ≡ true) × (view_of w ≡ top (ring_of_word init) (vote_at W ids G g).views) × IsWord w
    agreement-in f = let (b, v, h) = f.some w refl in (sym (agreement-is init (record_in W ids) (vote_at W ids G g) (get_or G g 0) (groups.counts g l) true (sym b)), v, h)

  pub choice-out : (wish : ℕ) → view_of wish ≡ wished (ring_of_word init) (record_in W ids) → WordIf (choice_by (view_of wish) (eqb (missing_in (get_or G g 0)) 0) (vote_at W ids G g)) (vote_at W ids G g).view None
      → is_choice (ring_of_word init) (record_in W ids) (vote_at W ids G g) ≡ false
  choice-out wish e f = sym (choice-is init (record_in W ids) (vote_at W ids G g) (get_or G g 0) (groups.counts g l) wish false e (sym (f.none refl)))

  pub agreement-out : WordIf (agreement_by (ring_of_word init) (eqb (missing_in (get_or G g 0)) 0) (vote_at W ids G g)) (top (ring_of_word init) (vote_at W ids G g).views) None → is_agreement (ring_of_word init) (record_in W ids) (vote_at W ids G g) ≡ false
  agreement-out f = sym (agreement-is init (record_in W ids) (vote_at W ids G g) (get_or G g 0) (groups.counts g l) false (sym (f.none refl)))

-- ---- one group more, by what is answered of it

module _ {W ids G : List ℕ} {of : Stmt → View} {test : Stmt → Bool} {n : ℕ} {answers : ℕ → ℕ → Option ℕ → Type 0} (told : Answers W ids G of test n answers) {g p : ℕ} (l : g < n) (at : p ≡ place_in (get_or G g 0)) where
  pub enters : {t : ℕ} {K R K' R' : List ℕ} {m w : ℕ} → answers (get_or ids p 0) (get_or G g 0) (Some w) → m < 512 → RowAdded K R t m w (get_or ids p 0) K' R' → GroupRows W ids G t of test g K R m
      → GroupRows W ids G t of test (g + 1) K' R' (m + 1)
  enters {w = w} said few put rows =
      let (e, v, h) = told.some g w l (subst (λ p. answers (get_or ids p 0) (get_or G g 0) (Some w)) at said) in
      rows_take true (sym e) refl few put at (v ∙ ap (λ z. of (entry W ids z)) (sym at)) h refl rows

  pub stays-out : {t : ℕ} {K R : List ℕ} {m : ℕ} → answers (get_or ids p 0) (get_or G g 0) None → GroupRows W ids G t of test g K R m → GroupRows W ids G t of test (g + 1) K R m
  stays-out said rows = rows-skip false (sym (told.none g l (subst (λ p. answers (get_or ids p 0) (get_or G g 0) None) at said))) refl rows

pub others_first : {t : ℕ} {K R : List ℕ} → OtherTables t K R K R
others_first = record { keys = λ u l d. keys-same; rows = λ u l d. rows_same }

pub others-more : {t : ℕ} {K R K' R' K'' R'' : List ℕ} {m w x : ℕ} → OtherTables t K R K' R' → RowAdded K' R' t m w x K'' R'' → OtherTables t K R K'' R''
others-more f put = record { keys = λ u l d. keys-again (f.keys u l d) (put.others u l d); rows = λ u l d. rows-again (f.rows u l d) (put.rows u l d) }
