-- Laws of the block: one word more, one notice more.
-- Assumes nothing.
use Rattle.std.specs.Prelude.{if◌then◌else◌}
use mathlib.Core.Path.{◌≡◌, refl, sym, ap, subst, ◌∙◌}
use mathlib.Core.Logic.{◌≢◌}
use mathlib.Core.Bool.{Bool, true, false, true≢false}
use mathlib.Core.List.{List, [], ◌∷◌, ◌++◌}
use Prim.Native.Nat.{ℕ, ◌+◌, ◌*◌, ◌%◌, ◌≤◌, ◌<◌}
use native.Mathlib.Numerals.{add-one}
use native.Mathlib.Omega.{arith}
use lib.Dec.{eqb}
use lib.ListN.{length, get_or, set, length-set}
use lib.Seq.{get_or-set_same, get_or-set_other}
use borrow.Author.Tests.{eqb-true, eqb-false}
use Rattle.protocol.specs.Sets.{bit}
use Rattle.protocol.specs.Lists.{when, list_of}
use Rattle.protocol.specs.Statement.{no_group, tells, unbound, bound, barred, binding_payload}
use Rattle.protocol.specs.Statement as statement
use Rattle.protocol.proofs.Bits.{bit-zero}
use Rattle.protocol.proofs.Numbered.{list_of-cong, put-at}
use Rattle.views.proofs.Sets.{bit-far}
use Rattle.statements.specs.declared.Binding.{Binding}
use Rattle.statements.specs.declared.Binding.TheVariants.{Unbound, Bound, Barred}
use Rattle.statements.specs.declared.Told.{Told}
use Rattle.statements.specs.Sets.{PutBit}
use Rattle.statements.specs.Block.{binding_is, told_is, block_word, bound_or_barred, binding_at, group_at, TellsGroup, Nothing, is_bound, is_barred}
use Rattle.statements.proofs.NoticeSets.{put_as, put_other}

-- ---- words

pub word-is : (B : List ℕ) (i r : ℕ) → r ≡ get_or B i 0 → r < 18446744073709551616 → r ≡ block_word B i
unfolding block_word
word-is B i r e l = omega arith

word_small : (B : List ℕ) (i : ℕ) → block_word B i < 18446744073709551616
unfolding block_word
word_small B i = omega arith

word_same : (B : List ℕ) (i x : ℕ) → i < length B → x < 18446744073709551616 → block_word (set B i x) i ≡ x
unfolding block_word
word_same B i x h l = omega (arith, get_or-set_same B i x 0 h)

word-other : (B : List ℕ) (i j x : ℕ) → j ≢ i → block_word (set B i x) j ≡ block_word B j
unfolding block_word
word-other B i j x n = ap (λ y. y % 18446744073709551616) (get_or-set_other B i j x 0 n)

-- ---- what is told

pub nothing-past : (B : List ℕ) (j : ℕ) → 64 ≤ j → (b : Bool) (k : ℕ) → b ≡ false → tells unbound (when b k) ≡ group_at B j
unfolding group_at binding_at
nothing-past B j h b k e =
    rw (e, bit-far 64 (block_word B 0) j (word_small B 0) h, bit-far 64 (block_word B 1) j (word_small B 1) h, bit-far 64 (block_word B 2) j (word_small B 2) h)

binding-of : (b c : Bool) (m : ℕ) (x : statement.Binding) → (c ≡ true → x ≡ barred) → (c ≡ false → b ≡ true → x ≡ bound m) → (c ≡ false → b ≡ false → x ≡ unbound) → x ≡ bound_or_barred b c m
binding-of true true m x p q r = p refl
binding-of false true m x p q r = p refl
binding-of true false m x p q r = q refl refl
binding-of false false m x p q r = r refl refl

module _ (B : List ℕ) (j : ℕ) (w v : ℕ) (r : Bool) (ew : w ≡ block_word B 1) (er : r ≡ bit w j) where
  in-barred : bit (block_word B 1) j ≡ r
  in-barred = ap (λ x. bit x j) (sym ew) ∙ sym er

  pub barred-at : r ≡ true → barred ≡ binding_at B j
  unfolding binding_at
  barred-at e = binding-of (bit (block_word B 0) j) (bit (block_word B 1) j) _ barred (λ c. refl) (λ c b. absurd (true≢false (sym (in-barred ∙ e) ∙ c))) (λ c b. absurd (true≢false (sym (in-barred ∙ e) ∙ c)))

  module _ (out : r ≡ false) (q : Bool) (ev : v ≡ block_word B 0) (eq : q ≡ bit v j) where
    in-bound : bit (block_word B 0) j ≡ q
    in-bound = ap (λ x. bit x j) (sym ev) ∙ sym eq

    pub bound_at : (m : ℕ) → m ≡ block_word B (3 + 2 * j) → q ≡ true → bound m ≡ binding_at B j
    unfolding binding_at
    bound_at m em e = binding-of (bit (block_word B 0) j) (bit (block_word B 1) j) _ (bound m) (λ c. absurd (true≢false (sym c ∙ in-barred ∙ out))) (λ c b. ap bound em) (λ c b. absurd (true≢false (sym (in-bound ∙ e) ∙ b)))

    pub unbound-at : q ≡ false → unbound ≡ binding_at B j
    unfolding binding_at
    unbound-at e = binding-of (bit (block_word B 0) j) (bit (block_word B 1) j) _ unbound (λ c. absurd (true≢false (sym c ∙ in-barred ∙ out))) (λ c b. absurd (true≢false (sym b ∙ in-bound ∙ e))) (λ c b. refl)

pub told-made : (B : List ℕ) (j : ℕ) (b : Binding) (s : Bool) (k w : ℕ) → binding_is b ≡ binding_at B j → w ≡ block_word B 2 → s ≡ bit w j → k ≡ block_word B (4 + 2 * j) → tells (binding_is b) (when s k) ≡ group_at B j
unfolding group_at
told-made B j b s k w eb ew es ek = rw (eb, es, ew, ek)

pub put-bit-as : {w w' j r : ℕ} {y y' : Bool} → w ≡ w' → y ≡ y' → PutBit w j y r → PutBit w' j y' r
put-bit-as {w} {w'} {j} {r} {y} {y'} e f p = subst (λ x. PutBit x j y' r) e (subst (λ x. PutBit w j x r) f p)

parts : {x x' y y' z z' : Bool} {p p' k k' : ℕ} → x ≡ x' → y ≡ y' → z ≡ z' → p ≡ p' → k ≡ k' → tells (bound_or_barred x y p) (when z k) ≡ tells (bound_or_barred x' y' p') (when z' k')
parts a b c d e = rw (a, b, c, d, e)

told-parts : (b : Binding) → bound_or_barred (is_bound b) (is_barred b) (binding_payload (binding_is b)) ≡ binding_is b
told-parts Unbound = refl
told-parts (Bound m) = refl
told-parts Barred = refl

abbrev five : List ℕ → ℕ → ℕ → ℕ → ℕ → ℕ → ℕ → List ℕ
five B j a b c p k = set (set (set (set (set B 0 a) 1 b) 2 c) (3 + 2 * j) p) (4 + 2 * j) k

module _ (B : List ℕ) (size : length B ≡ 131) (j : ℕ) (h : j < 64) (t : Told) (a b c p : ℕ)
    (pa : PutBit (block_word B 0) j (is_bound t.binding) a) (pb : PutBit (block_word B 1) j (is_barred t.binding) b) (pc : PutBit (block_word B 2) j t.stored c)
    (la : a < 18446744073709551616) (lb : b < 18446744073709551616) (lc : c < 18446744073709551616)
    (ep : p ≡ binding_payload (binding_is t.binding)) (lp : p < 18446744073709551616) (lk : t.kept < 18446744073709551616) where
  abbrev k : ℕ
  k = t.kept

  abbrev B' : List ℕ
  B' = five B j a b c p k

  low : (i : ℕ) → i < 3 → block_word B' i ≡ block_word (set (set (set B 0 a) 1 b) 2 c) i
  low i l = word-other _ (4 + 2 * j) i k (λ e. omega arith) ∙ word-other _ (3 + 2 * j) i p (λ e. omega arith)

  first : block_word B' 0 ≡ a
  first = low 0 (omega arith) ∙ word-other _ 2 0 c (λ e. omega arith) ∙ word-other _ 1 0 b (λ e. omega arith) ∙ word_same B 0 a (omega arith) la

  second : block_word B' 1 ≡ b
  second = low 1 (omega arith) ∙ word-other _ 2 1 c (λ e. omega arith) ∙ word_same (set B 0 a) 1 b (omega (arith, length-set B 0 a)) lb

  third : block_word B' 2 ≡ c
  third = low 2 (omega arith) ∙ word_same (set (set B 0 a) 1 b) 2 c (omega (arith, length-set B 0 a, length-set (set B 0 a) 1 b)) lc

  high : (i : ℕ) → 3 ≤ i → block_word (set (set (set B 0 a) 1 b) 2 c) i ≡ block_word B i
  high i l = word-other _ 2 i c (λ e. omega arith) ∙ word-other _ 1 i b (λ e. omega arith) ∙ word-other _ 0 i a (λ e. omega arith)

  three : length (set (set (set B 0 a) 1 b) 2 c) ≡ 131
  three = length-set (set (set B 0 a) 1 b) 2 c ∙ length-set (set B 0 a) 1 b ∙ length-set B 0 a ∙ size

  payload : (i : ℕ) (e : Bool) → eqb i j ≡ e → block_word B' (3 + 2 * i) ≡ (if e then p else block_word B (3 + 2 * i))
  payload i true q =
      let d : i ≡ j = eqb-true i j q in
      ap (λ x. block_word B' (3 + 2 * x)) d ∙ word-other _ (4 + 2 * j) (3 + 2 * j) k (λ e. omega arith) ∙ word_same (set (set (set B 0 a) 1 b) 2 c) (3 + 2 * j) p (omega (arith, three)) lp
  payload i false q =
      let n = eqb-false i j q in
      word-other _ (4 + 2 * j) (3 + 2 * i) k (λ e. omega arith) ∙ word-other _ (3 + 2 * j) (3 + 2 * i) p (λ e. n (omega arith)) ∙ high (3 + 2 * i) (omega arith)

  kept : (i : ℕ) (e : Bool) → eqb i j ≡ e → block_word B' (4 + 2 * i) ≡ (if e then k else block_word B (4 + 2 * i))
  kept i true q =
      let d : i ≡ j = eqb-true i j q in
      ap (λ x. block_word B' (4 + 2 * x)) d ∙ word_same (set (set (set (set B 0 a) 1 b) 2 c) (3 + 2 * j) p) (4 + 2 * j) k (omega (arith, length-set (set (set (set B 0 a) 1 b) 2 c) (3 + 2 * j) p, three)) lk
  kept i false q =
      let n = eqb-false i j q in
      word-other _ (4 + 2 * j) (4 + 2 * i) k (λ e. n (omega arith)) ∙ word-other _ (3 + 2 * j) (4 + 2 * i) p (λ e. omega arith) ∙ high (4 + 2 * i) (omega arith)

  at : (i : ℕ) (e : Bool) → i < 64 → eqb i j ≡ e → group_at B' i ≡ (if e then told_is t else group_at B i)
  unfolding group_at binding_at
  at i true n q =
      parts (ap (λ w. bit w i) first ∙ pa.bits i n ∙ put_as j _ (bit (block_word B 0)) i true q) (ap (λ w. bit w i) second ∙ pb.bits i n ∙ put_as j _ (bit (block_word B 1)) i true q)
      (ap (λ w. bit w i) third ∙ pc.bits i n ∙ put_as j _ (bit (block_word B 2)) i true q) (payload i true q ∙ ep) (kept i true q)
      ∙ ap (λ x. tells x (when t.stored k)) (told-parts t.binding)
  at i false n q =
      parts (ap (λ w. bit w i) first ∙ pa.bits i n ∙ put_as j _ (bit (block_word B 0)) i false q) (ap (λ w. bit w i) second ∙ pb.bits i n ∙ put_as j _ (bit (block_word B 1)) i false q)
      (ap (λ w. bit w i) third ∙ pc.bits i n ∙ put_as j _ (bit (block_word B 2)) i false q) (payload i false q) (kept i false q)

  pub tells-five : TellsGroup B j t B'
  tells-five = record { groups = λ i l. at i (eqb i j) l refl ∙ sym (put_as j (told_is t) (group_at B) i (eqb i j) refl) }

-- a number past the last changes nothing
pub tells-past : (B : List ℕ) (j : ℕ) (t : Told) → 64 ≤ j → TellsGroup B j t B
tells-past B j t h = record { groups = λ i l. sym (put_other j (told_is t) (group_at B) i (λ e. omega arith)) }

-- ---- one group more

pub groups-more : (B B' : List ℕ) (j : ℕ) (t : Told) → j < 64 → TellsGroup B j t B' → list_of (j + 1) (group_at B') ≡ list_of j (group_at B) ++ (told_is t ∷ [])
unfolding list_of
groups-more B B' j t h s =
    ap (λ n. list_of n (group_at B')) (add-one j)
    ∙ ap (λ l. l ++ (group_at B' j ∷ [])) (list_of-cong j (group_at B') (group_at B) (λ i l. s.groups i (omega arith) ∙ put_other j (told_is t) (group_at B) i (λ e. omega arith)))
    ∙ ap (λ g. list_of j (group_at B) ++ (g ∷ [])) (s.groups j h ∙ put-at j (told_is t) (group_at B))

-- ---- nothing is told

no_bits : (B : List ℕ) (i : ℕ) → block_word B 0 ≡ 0 → block_word B 1 ≡ 0 → block_word B 2 ≡ 0 → group_at B i ≡ no_group
unfolding group_at binding_at
no_bits B i a b c = rw (a, b, c, bit-zero i)

pub nothing-told : (B : List ℕ) → length B ≡ 131 → Nothing (set (set (set B 0 0) 1 0) 2 0) 0
nothing-told B size = record { none = λ i a l. no_bits _ i first second third }
  where
    one : length (set B 0 0) ≡ 131
    one = length-set B 0 0 ∙ size

    first : block_word (set (set (set B 0 0) 1 0) 2 0) 0 ≡ 0
    first = word-other _ 2 0 0 (λ e. omega arith) ∙ word-other _ 1 0 0 (λ e. omega arith) ∙ word_same B 0 0 (omega arith) (omega arith)

    second : block_word (set (set (set B 0 0) 1 0) 2 0) 1 ≡ 0
    second = word-other _ 2 1 0 (λ e. omega arith) ∙ word_same (set B 0 0) 1 0 (omega (arith, one)) (omega arith)

    third : block_word (set (set (set B 0 0) 1 0) 2 0) 2 ≡ 0
    third = word_same (set (set B 0 0) 1 0) 2 0 (omega (arith, length-set (set B 0 0) 1 0, one)) (omega arith)

-- of the notices after j as before
pub nothing-after : (B B' : List ℕ) (j : ℕ) (t : Told) → Nothing B j → TellsGroup B j t B' → Nothing B' (j + 1)
nothing-after B B' j t n s = record { none = λ i a l. s.groups i l ∙ put_other j (told_is t) (group_at B) i (λ e. omega arith) ∙ n.none i (omega arith) l }

pub nothing-more : (B : List ℕ) (j : ℕ) → Nothing B j → Nothing B (j + 1)
nothing-more B j n = record { none = λ i a l. n.none i (omega arith) l }

-- one group more, of which nothing is told
pub groups-none-more : (B : List ℕ) (j : ℕ) → j < 64 → Nothing B j → list_of (j + 1) (group_at B) ≡ list_of j (group_at B) ++ (no_group ∷ [])
unfolding list_of
groups-none-more B j h n = ap (λ k. list_of k (group_at B)) (add-one j) ∙ ap (λ g. list_of j (group_at B) ++ (g ∷ [])) (n.none j (omega arith) h)
