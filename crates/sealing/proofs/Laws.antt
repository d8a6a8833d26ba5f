-- What each answer of the cycle comes to.
-- Assumes nothing.
use mathlib.Core.Path.{◌≡◌, refl, sym, ap, ap₂, ◌∙◌, subst}
use mathlib.Core.Bool.{Bool, true, false, ◌&&◌, ◌||◌}
use mathlib.Core.List.{List}
use Prim.Native.Nat.{ℕ, zero, suc, ◌+◌, ◌-◌, ◌≤◌, ◌<◌}
use native.Mathlib.Decide.{ℕ_discrete, dec_lt}
use native.Mathlib.Omega.{arith}
use Rattle.std.specs.Prelude.{Option, Some, None}
use lib.Dec.{eqb}
use lib.ListN.{length, get_or, set}
use lib.Seq.{get_or-set_same, get_or-set_other, set_out}
use borrow.Author.Tests.{eq-eqb, ne_eqb, lt-ltb, le-ltb}
use Rattle.protocol.specs.Lists.{any, all, list_of}
use Rattle.protocol.specs.View.{View, same_view, size}
use Rattle.protocol.specs.Statement.{Stmt}
use Rattle.protocol.specs.Evidence.{is_candidate}
use Rattle.protocol.specs.Grounds.{is_top}
use Rattle.protocol.proofs.Decided.{says-in}
use Rattle.views.specs.View.{view_of, ring_of_word}
use Rattle.views.proofs.Tables.{any-zero, any-suc, any_at, all-zero, all_more, all-miss}
use Rattle.views.proofs.Views.{same-yes}
use Rattle.pool.specs.Pool.{view_at, count_of, stmt_at}
use Rattle.tables.specs.Index.{key_at, number_at, Indexed, Latest, Passed}
use Rattle.tables.proofs.Searches.{passed_first, passed-next, passed_none}
use Rattle.votes.specs.Tables.{up_to, IsWord, choice_at, agreement_at, gives, seals_at, ends, Tables}
use Rattle.protocol.proofs.Found.{if-true, if-false}
use Rattle.sealing.specs.declared.verdict.Verdict.{Verdict}
use Rattle.sealing.specs.declared.verdict.Verdict.TheVariants.{Unknown, Yes, No}
use Rattle.sealing.specs.Verdict.{known}
use Rattle.sealing.specs.Memos.{asked, Memos, Later}

or-none : (a b : Bool) → a ≡ false → b ≡ false → (a || b) ≡ false
or-none a b e f = rw (e, f)

or_right : (a b : Bool) → b ≡ true → (a || b) ≡ true
or_right true b e = refl
or_right false b e = e

and_none : (a b : Bool) → b ≡ false → (a && b) ≡ false
and_none true b e = e
and_none false b e = refl

-- none of n rows has p
none_has : {p : ℕ → Bool} (n : ℕ) → ((i : ℕ) → i < n → p i ≡ false) → any p (up_to n) ≡ false
none_has {p} zero h = any-zero p (λ i. i)
none_has {p} (suc n) h = any-suc p (λ i. i) n ∙ ap₂ ◌||◌ (none_has n (λ i l. h i (omega arith))) (h n (omega arith))

-- ---- rows

module _ (X : List Stmt) (init : ℕ) where
  abbrev pub cand : View → Bool
  cand v = is_candidate (ring_of_word init) X v

  abbrev pub tops : View → Bool
  tops t = is_top (ring_of_word init) X t

module _ (W : List ℕ) (X : List Stmt) (init : ℕ) (K R : List ℕ) where
  -- the search for a choice that gives v has come down to x, and the search for an agreement to a history with the top t that seals it to y: to a row, or None

  pub record Tried (v : ℕ) (x : Option ℕ) : Type 0 where
    pub so : (n : ℕ) → Indexed K R 0 n → Passed (gives W X init K R v) K 0 v n x

  pub record Sought (t : ℕ) (y : Option ℕ) : Type 0 where
    pub so : (n : ℕ) → Indexed K R 1 n → Passed (ends W X init K R t) K 1 t n y

  -- the first p views of statement n are candidates
  pub record AllTo (n p : ℕ) : Type 0 where
    pub are : all (cand X init) (list_of p (view_at W n)) ≡ true

  give-other : (v i : ℕ) → (key_at K 0 i ≡ v → ⊥) → gives W X init K R v i ≡ false
  unfolding gives
  give-other v i d = ap (λ b. b && tops X init (choice_at W R i).at) (ne_eqb (key_at K 0 i) v d)

  give-is : (v i t : ℕ) (r : Bool) → key_at K 0 i ≡ v → view_of t ≡ (choice_at W R i).at → tops X init (view_of t) ≡ r → gives W X init K R v i ≡ r
  unfolding gives
  give-is v i t r e f g = ap₂ ◌&&◌ (eq-eqb (key_at K 0 i) v e) (ap (tops X init) (sym f) ∙ g)

  end-other : (t i : ℕ) → (key_at K 1 i ≡ t → ⊥) → ends W X init K R t i ≡ false
  unfolding ends
  end-other t i d = ap (λ b. b && seals_at W X init K R i) (ne_eqb (key_at K 1 i) t d)

  end_is : (t i : ℕ) (r : Bool) → key_at K 1 i ≡ t → seals_at W X init K R i ≡ r → ends W X init K R t i ≡ r
  unfolding ends
  end_is t i r e f = ap₂ ◌&&◌ (eq-eqb (key_at K 1 i) t e) f

module _ {W : List ℕ} {X : List Stmt} {init : ℕ} {K R : List ℕ} where
  pub try-first : {v : ℕ} {x : Option ℕ} → ((n : ℕ) → Indexed K R 0 n → Latest K 0 v n x) → Tried W X init K R v x
  try-first {v} s = record { so = λ n i. passed_first (give-other W X init K R v) (s n i) }

  pub seek-first : {t : ℕ} {y : Option ℕ} → ((n : ℕ) → Indexed K R 1 n → Latest K 1 t n y) → Sought W X init K R t y
  seek-first {t} s = record { so = λ n i. passed_first (end-other W X init K R t) (s n i) }

  pub seek-next : {t i : ℕ} {y z : Option ℕ} {r : Bool} → Sought W X init K R t y → y ≡ Some i → r ≡ seals_at W X init K R i → r ≡ false → Latest K 1 (key_at K 1 i) i z → Sought W X init K R t z
  seek-next {t} {i} w l e f s = record {
    so = λ n j. passed-next (end-other W X init K R t) (w.so n j) l (end_is W X init K R t i false ((w.so n j).here i l).1 (sym e ∙ f)) s;
  }

module _ {W : List ℕ} {X : List Stmt} {init : ℕ} {K R : List ℕ} {choice_count agreement_count : ℕ} (ok : Tables W X init K R choice_count agreement_count) where
  -- what is found is a row

  pub choice-row : {v i : ℕ} {x : Option ℕ} → Tried W X init K R v x → x ≡ Some i → i < choice_count
  choice-row {i = i} w l = ((w.so choice_count ok.chosen).here i l).0

  pub agreement-row : {t i : ℕ} {y : Option ℕ} → Sought W X init K R t y → y ≡ Some i → i < agreement_count
  agreement-row {i = i} w l = ((w.so agreement_count ok.agreed).here i l).0

  -- ---- sealed tops

  pub top-init : {t : ℕ} → IsWord t → t ≡ init → tops X init (view_of t) ≡ true
  top-init {t} l e = ok.tops t l ∙ ap (λ b. b || any (ends W X init K R t) (up_to agreement_count)) (eq-eqb t init e)

  pub top-found : {t i : ℕ} {y : Option ℕ} → IsWord t → Sought W X init K R t y → y ≡ Some i → seals_at W X init K R i ≡ true → tops X init (view_of t) ≡ true
  top-found {t} {i} l w m e =
      ok.tops t l ∙ or_right (eqb t init) (any (ends W X init K R t) (up_to agreement_count))
      (any_at (ends W X init K R t) (λ j. j) agreement_count (agreement-row w m) (end_is W X init K R t i true ((w.so agreement_count ok.agreed).here i m).1 e))

  pub top-none : {t : ℕ} {y : Option ℕ} → IsWord t → (t ≡ init → ⊥) → Sought W X init K R t y → y ≡ None → tops X init (view_of t) ≡ false
  top-none {t} l d w m =
      ok.tops t l ∙ or-none (eqb t init) (any (ends W X init K R t) (up_to agreement_count)) (ne_eqb t init d) (none_has agreement_count (passed_none (w.so agreement_count ok.agreed) m))

  -- ---- candidates

  pub cand-init : {v : ℕ} → IsWord v → v ≡ init → true ≡ cand X init (view_of v)
  cand-init {v} l e = sym (ok.candidates v l ∙ ap (λ b. b || any (gives W X init K R v) (up_to choice_count)) (eq-eqb v init e))

  pub cand-none : {v : ℕ} {x : Option ℕ} → IsWord v → (v ≡ init → ⊥) → Tried W X init K R v x → x ≡ None → cand X init (view_of v) ≡ false
  cand-none {v} l d w m =
      ok.candidates v l ∙ or-none (eqb v init) (any (gives W X init K R v) (up_to choice_count)) (ne_eqb v init d) (none_has choice_count (passed_none (w.so choice_count ok.chosen) m))

  pub cand-rowless : {v : ℕ} {x : Option ℕ} → IsWord v → (v ≡ init → ⊥) → ((n : ℕ) → Indexed K R 0 n → Latest K 0 v n x) → x ≡ None → false ≡ cand X init (view_of v)
  cand-rowless l d s e = sym (cand-none l d (try-first s) e)

  chosen_at : {v i : ℕ} {x : Option ℕ} (t : ℕ) → IsWord v → Tried W X init K R v x → x ≡ Some i → view_of t ≡ (choice_at W R i).at → tops X init (view_of t) ≡ true → cand X init (view_of v) ≡ true
  chosen_at {v} {i} t l w m e f =
      ok.candidates v l ∙ or_right (eqb v init) (any (gives W X init K R v) (up_to choice_count))
      (any_at (gives W X init K R v) (λ j. j) choice_count (choice-row w m) (give-is W X init K R v i t true ((w.so choice_count ok.chosen).here i m).1 e f))

  pub cand-at-init : {v i : ℕ} {x : Option ℕ} (t : ℕ) → IsWord v → Tried W X init K R v x → x ≡ Some i → view_of t ≡ (choice_at W R i).at → IsWord t → t ≡ init → cand X init (view_of v) ≡ true
  cand-at-init t l w m e k f = chosen_at t l w m e (top-init k f)

  pub cand-at : {v i j : ℕ} {x y : Option ℕ} {r : Bool} (t : ℕ) → IsWord v → Tried W X init K R v x → x ≡ Some i → view_of t ≡ (choice_at W R i).at → IsWord t
      → Sought W X init K R t y → y ≡ Some j → r ≡ seals_at W X init K R j → r ≡ true → cand X init (view_of v) ≡ true
  cand-at t l w m e k s h f g = chosen_at t l w m e (top-found k s h (sym f ∙ g))

  pub try-next : {v i : ℕ} {x y z : Option ℕ} (t : ℕ) → Tried W X init K R v x → x ≡ Some i → view_of t ≡ (choice_at W R i).at → IsWord t → (t ≡ init → ⊥) → Sought W X init K R t y → y ≡ None
      → Latest K 0 (key_at K 0 i) i z → Tried W X init K R v z
  try-next {v} {i} t w m e k d s h q = record {
    so = λ n j. passed-next (give-other W X init K R v) (w.so n j) m (give-is W X init K R v i t false ((w.so n j).here i m).1 e (top-none k d s h)) q;
  }

  -- ---- what falls from call to call

  same_size : {x y : ℕ} → x ≡ y → size 16 (view_of x) ≡ size 16 (view_of y)
  same_size e = ap (λ x. size 16 (view_of x)) e

  pub seal-less : {v i j : ℕ} {x y : Option ℕ} (t : ℕ) → Tried W X init K R v x → x ≡ Some i → view_of t ≡ (choice_at W R i).at → Sought W X init K R t y → y ≡ Some j
      → size 16 (view_of (key_at K 1 j)) < size 16 (view_of v)
  seal-less {v} {i} {j} t w m e s k =
      omega (
        arith,
        ok.rises i (choice-row w m),
        same_size ((w.so choice_count ok.chosen).here i m).1,
        ap (size 16) e,
        same_size ((s.so agreement_count ok.agreed).here j k).1,
      )

  pub top-less : {a n j : ℕ} {y : Option ℕ} (t : ℕ) → a < agreement_count → n ≡ number_at R 1 a → view_of t ≡ (stmt_at W n).at → Sought W X init K R t y → y ≡ Some j → size 16 (view_of (key_at K 1 j)) < size 16 (view_of (key_at K 1 a))
  top-less {a} {j = j} t l q e s k = omega (arith, ok.climbs a l, ap (size 16) (e ∙ ap (λ x. (stmt_at W x).at) q), same_size ((s.so agreement_count ok.agreed).here j k).1)

  pub view-less : {a n e p : ℕ} (v : ℕ) → a < agreement_count → n ≡ number_at R 1 a → e ≡ count_of W n → p < e → view_of v ≡ view_at W n p → size 16 (view_of v) ≤ size 16 (view_of (key_at K 1 a))
  unfolding stmt_at
  view-less {a} {n} {e} {p} v m q f l y =
      ok.within a m (view_of v) (rw (sym q) (says-in.sound (rw (any_at (same_view (view_of v)) (view_at W n) (count_of W n) (omega arith) (same-yes (view_of v) (view_at W n p) y)) tt)))

  -- ---- one agreement

  pub seal-not : (a v : ℕ) {n e p : ℕ} {r : Bool} → n ≡ number_at R 1 a → e ≡ count_of W n → p < e → view_of v ≡ view_at W n p → r ≡ cand X init (view_of v) → r ≡ false → seals_at W X init K R a ≡ false
  unfolding seals_at stmt_at
  seal-not a v {n} {e} {p} {r} q f l y z w =
      and_none (tops X init (agreement_at W R a).at) (all (cand X init) (list_of (count_of W (number_at R 1 a)) (view_at W (number_at R 1 a))))
      (rw (sym q) (all-miss (cand X init) (view_at W n) (count_of W n) (omega arith) (ap (cand X init) (sym y) ∙ sym z ∙ w)))

  pub all_first : (n : ℕ) → AllTo W X init K R n 0
  all_first n = record { are = all-zero (cand X init) (view_at W n) }

  pub all-next : (v : ℕ) {n p : ℕ} {r : Bool} → AllTo W X init K R n p → view_of v ≡ view_at W n p → r ≡ cand X init (view_of v) → r ≡ true → AllTo W X init K R n (p + 1)
  all-next v {n} {p} {r} a y z w = record { are = all_more (cand X init) (view_at W n) p a.are (ap (cand X init) (sym y) ∙ sym z ∙ w) }

  seal-by : (a t : ℕ) {n e p : ℕ} → n ≡ number_at R 1 a → e ≡ count_of W n → p ≤ e → e ≤ p → AllTo W X init K R n p → view_of t ≡ (stmt_at W n).at → tops X init (view_of t) ≡ true → seals_at W X init K R a ≡ true
  unfolding seals_at stmt_at
  seal-by a t {n} {e} {p} q f l m al g h =
      let d : count_of W n ≡ p = omega arith in
      rw (sym q) (ap₂ ◌&&◌ (ap (tops X init) (sym g) ∙ h) (ap (λ m. all (cand X init) (list_of m (view_at W n))) d ∙ al.are))

  pub seal-init : (a t : ℕ) {n e p : ℕ} → n ≡ number_at R 1 a → e ≡ count_of W n → p ≤ e → e ≤ p → AllTo W X init K R n p → view_of t ≡ (stmt_at W n).at → IsWord t → t ≡ init → seals_at W X init K R a ≡ true
  seal-init a t q f l m al g k h = seal-by a t q f l m al g (top-init k h)

  pub seal-found : (a t : ℕ) {n e p j : ℕ} {y : Option ℕ} {r : Bool} → n ≡ number_at R 1 a → e ≡ count_of W n → p ≤ e → e ≤ p → AllTo W X init K R n p → view_of t ≡ (stmt_at W n).at → IsWord t
      → Sought W X init K R t y → y ≡ Some j → r ≡ seals_at W X init K R j → r ≡ true → seals_at W X init K R a ≡ true
  seal-found a t q f l m al g k s h i j = seal-by a t q f l m al g (top-found k s h (sym i ∙ j))

  pub seal-none : (a t : ℕ) {n : ℕ} {y : Option ℕ} → n ≡ number_at R 1 a → view_of t ≡ (stmt_at W n).at → IsWord t → (t ≡ init → ⊥) → Sought W X init K R t y → y ≡ None → seals_at W X init K R a ≡ false
  unfolding seals_at
  seal-none a t {n} q g k d s h =
      ap (λ b. b && all (cand X init) (agreement_at W R a).views) (ap (λ x. tops X init (stmt_at W x).at) (sym q) ∙ ap (tops X init) (sym g) ∙ top-none k d s h)

-- ---- what is remembered

some-injective : {a b : Bool} → Some a ≡ Some b → a ≡ b
some-injective e = cc

-- what was found is remembered
pub found : (x : Verdict) (b : Bool) → known x ≡ Some b → x ≡ Unknown → ⊥
found Unknown b e q = absurd (cc)
found Yes b e q = cc
found No b e q = cc

-- what is written at j, where it is right, leaves all right
put : (Q : ℕ → Verdict → Type 0) (m : List Verdict) (j : ℕ) (x : Verdict) → ((i : ℕ) → Q i (get_or m i Unknown)) → Q j x → (i : ℕ) → Q i (get_or (set m j x) i Unknown)
put Q m j x h g i = go (ℕ_discrete i j) (dec_lt j (length m))
  where
    go : Dec (i ≡ j) → Dec (j < length m) → Q i (get_or (set m j x) i Unknown)
    go (yes e) (yes l) = subst (λ (k : ℕ). Q k (get_or (set m j x) k Unknown)) (sym e) (subst (λ (y : Verdict). Q j y) (sym (get_or-set_same m j x Unknown l)) g)
    go (yes e) (no l) = subst (λ (s : List Verdict). Q i (get_or s i Unknown)) (sym (set_out m j x (omega arith))) (h i)
    go (no d) s = subst (λ (y : Verdict). Q i y) (sym (get_or-set_other m j i x Unknown d)) (h i)

module _ (W : List ℕ) (X : List Stmt) (init : ℕ) (K R : List ℕ) where
  -- place k is about b
  pub record About (k : ℕ) (b : Bool) : Type 0 where
    pub so : asked W X init K R k ≡ b

module _ {W : List ℕ} {X : List Stmt} {init : ℕ} {K R : List ℕ} where
  pub about-choice : {c : ℕ} → c < 512 → About W X init K R c (cand X init (view_of (key_at K 0 c)))
  unfolding asked
  about-choice l = record { so = if-true _ _ _ (lt-ltb _ _ l) }

  pub about-agreement : (a : ℕ) → About W X init K R (512 + a) (seals_at W X init K R a)
  unfolding asked
  about-agreement a = record { so = if-false _ _ _ (le-ltb (512 + a) 512 (omega arith)) ∙ ap (seals_at W X init K R) back }
    where
      back : (512 + a) - 512 ≡ a
      back = omega arith

  pub about-view : {choice_count agreement_count v i : ℕ} {x : Option ℕ} → Tables W X init K R choice_count agreement_count → ((n : ℕ) → Indexed K R 0 n → Latest K 0 v n x) → x ≡ Some i → About W X init K R i (cand X init (view_of v))
  about-view {choice_count} {agreement_count} {v} {i} ok s e =
      let h = (s choice_count ok.chosen).here i e in
      record { so = (about-choice (omega (arith, h.0, ok.chosen.few))).so ∙ ap (λ x. cand X init (view_of x)) h.1 }

  pub later_same : {M : List Verdict} → Memos W X init K R M → Later W X init K R M M
  later_same m = record { memos = m; kept = λ k e. e }

  pub later_more : {M N O : List Verdict} → Later W X init K R M N → Later W X init K R N O → Later W X init K R M O
  later_more m n = record { memos = n.memos; kept = λ k e. m.kept k (n.kept k e) }

  pub remembered : {M : List Verdict} {k : ℕ} {b r : Bool} → Memos W X init K R M → About W X init K R k b → Some r ≡ known (get_or M k Unknown) → r ≡ b
  remembered {k = k} {r = r} ok a e = ok.right k r (sym e) ∙ a.so

module _ {W : List ℕ} {X : List Stmt} {init : ℕ} {K R : List ℕ} {M N : List Verdict} (ok : Later W X init K R M N) where
  pub write : (x : Verdict) {k : ℕ} {b : Bool} → About W X init K R k b → known x ≡ Some b → Later W X init K R M (set N k x)
  write x {k} {b} a e = record {
    memos = record { right = put (λ c y. (d : Bool) → known y ≡ Some d → d ≡ asked W X init K R c) N k x ok.memos.right (λ d q. some-injective (sym q ∙ e) ∙ sym a.so) };
    kept = put (λ c y. y ≡ Unknown → get_or M c Unknown ≡ Unknown) N k x ok.kept (λ q. absurd (found x b e q));
  }

  pub put-yes : {k : ℕ} {b : Bool} → About W X init K R k b → b ≡ true → (true ≡ b) × Later W X init K R M (set N k Yes)
  put-yes a e = (sym e, write Yes a (ap Some (sym e)))

  pub put-no : {k : ℕ} {b : Bool} → About W X init K R k b → b ≡ false → (false ≡ b) × Later W X init K R M (set N k No)
  put-no a e = (sym e, write No a (ap Some (sym e)))
