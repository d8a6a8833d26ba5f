-- Laws of writing: one word more, the views, the head and the columns, a whole statement.
-- Assumes nothing.
use Rattle.std.specs.Prelude.{if◌then◌else◌}
use mathlib.Core.Path.{◌≡◌, refl, sym, ap, ap₂, ◌∙◌}
use mathlib.Core.Bool.{Bool, true, false, cond}
use mathlib.Core.Logic.{◌⊎◌, inl, inr}
use mathlib.Core.List.{List, [], ◌∷◌, map}
use Prim.Native.Nat.{ℕ, ◌+◌, ◌-◌, ◌*◌, ◌/◌, ◌%◌, ◌≤◌, ◌<◌, min}
use native.Mathlib.Decide.{dec_lt}
use native.Mathlib.Omega.{arith}
use lib.Dec.{eqb, ltb}
use lib.ListN.{length, get_or, set, take, length-set, length-map, length-take}
use lib.Seq.{sets, length-sets, take_all, get_or-set_same, get_or-set_other}
use borrow.Author.Tests.{lt-ltb, le-ltb}
use Rattle.protocol.specs.Lists.{list_of}
use Rattle.protocol.specs.Sets.{bit}
use Rattle.protocol.specs.View.{View}
use Rattle.protocol.specs.Statement.{Group, Stmt, no_group, only}
use Rattle.protocol.proofs.Numbered.{list_of-length, list_of-at, list_of-cong}
use Rattle.views.specs.declared.View as held
use Rattle.views.specs.declared.History.{History}
use Rattle.views.specs.View.{view_of, view_in, word_of}
use Rattle.views.specs.Held.{view_is, held_at, views_is}
use Rattle.views.proofs.Tables.{take-list_of, map-list_of}
use Rattle.views.proofs.Views.{view-whole}
use Rattle.views.proofs.Held.{held_fits}
use Rattle.statements.specs.declared.Statement.{Statement}
use Rattle.statements.specs.Block.{group_at, groups_of}
use Rattle.statements.specs.Meaning.{first_views, stmt_of}
use Rattle.statements.proofs.FieldLaws.{views-listed, views-length}
use Rattle.pool.specs.Pool.{at_from, view_from, payload_from, bound_from, barred_from, stored_from, views_from, told_from, last_word, pool_words, head_at, word, view_word, count_of, view_at, group_count, told_bound, told_barred, told_stored, told_payload, told_kept, told_at, groups_at, stmt_at}
use Rattle.pool.specs.Steps.{IsHead, groups_many, head_of_held, head_word_of_held, Put}
use Rattle.pool.specs.Changes.{owner, Beside, head_of, head_word, says_bound, says_barred, says_stored, told_set, told_words, report_in, groups_in, put_at}
use Rattle.pool.proofs.Parts.{head-word-is, head-back}
use Rattle.pool.proofs.Rows.{sets-outside, sets-inside}
use Rattle.pool.proofs.Reports.{Tellable, block-tellable, told-parts, set-bit, words-length, words-payload, words-kept}

-- statements are the same if their fields are
pub stmts : {a b : Stmt} → a.kind ≡ b.kind → a.origin ≡ b.origin → a.at ≡ b.at → a.view ≡ b.view → a.notice ≡ b.notice → a.groups ≡ b.groups → a.views ≡ b.views → a ≡ b
stmts e1 e2 e3 e4 e5 e6 e7 i = record { kind = e1 i; origin = e2 i; at = e3 i; view = e4 i; notice = e5 i; groups = e6 i; views = e7 i }

-- ---- the views

-- a word of 64 bits is that of its view
pub word-of : (w : ℕ) (v : View) → w < 18446744073709551616 → view_of w ≡ v → w ≡ word_of v
unfolding view_of
word-of w v l e = back ∙ ap word_of e
  where
    back : w ≡ word_of (view_of w)
    back = omega arith

-- the view of a struct comes back from its word
pub word_in : (v : held.View) → view_in (word_of (view_is v)) ≡ view_is v
unfolding view_in
word_in v i = record { joined = low i; left = high i }
  where
    low : word_of (view_is v) % 65536 ≡ (view_is v).joined
    low = omega arith

    high : word_of (view_is v) / 4294967296 % 65536 ≡ (view_is v).left
    high = omega arith

-- the word of view p
abbrev pub held_word : List held.View → ℕ → ℕ
held_word l p = word_of (held_at l p)

pub wrote-views : (W W' : List ℕ) (s p : ℕ) (h : History) → p ≡ min h.len 16 → W' ≡ sets W s (list_of p (held_word h.views)) → W' ≡ sets W s (map word_of (views_is h))
unfolding views_is
wrote-views W W' s p h e w = w ∙ ap (sets W s) (ap (λ n. list_of n (held_word h.views)) e ∙ sym (map-list_of word_of (min h.len 16) (held_at h.views)))

-- ---- the head and the two columns of views

-- W with the head a at place s, and t and b in the columns
abbrev pub row_in : List ℕ → ℕ → ℕ → ℕ → ℕ → List ℕ
row_in W s a t b = set (set (set W s a) (s + at_from) t) (s + view_from) b

module _ (W : List ℕ) (s a t b : ℕ) where
  abbrev one : List ℕ
  one = set W s a

  abbrev two : List ℕ
  two = set one (s + at_from) t

  one-long : length one ≡ length W
  one-long = length-set W s a

  two-long : length two ≡ length W
  two-long = length-set one (s + at_from) t ∙ one-long

  pub row-long : length (row_in W s a t b) ≡ length W
  row-long = length-set two (s + view_from) b ∙ two-long

  -- with the views after it
  pub row-views-long : (U : List ℕ) (k : ℕ) (vs : List ℕ) → U ≡ sets (row_in W s a t b) k vs → length U ≡ length W
  row-views-long U k vs e = ap length e ∙ length-sets (row_in W s a t b) k vs ∙ row-long

  row-others : (i : ℕ) → (i ≡ s → ⊥) → (i ≡ s + at_from → ⊥) → (i ≡ s + view_from → ⊥) → get_or (row_in W s a t b) i 0 ≡ get_or W i 0
  row-others i e f g = get_or-set_other two (s + view_from) i b 0 g ∙ get_or-set_other one (s + at_from) i t 0 f ∙ get_or-set_other W s i a 0 e

  module _ (l : length W ≡ pool_words) (m : s ≤ 511) where
    row-head : get_or (row_in W s a t b) s 0 ≡ a
    row-head = get_or-set_other two (s + view_from) s b 0 (λ e. omega arith) ∙ get_or-set_other one (s + at_from) s t 0 (λ e. omega arith) ∙ get_or-set_same W s a 0 (omega arith)

    row-at : get_or (row_in W s a t b) (s + at_from) 0 ≡ t
    row-at = get_or-set_other two (s + view_from) (s + at_from) b 0 (λ e. omega arith) ∙ get_or-set_same one (s + at_from) t 0 (omega (arith, one-long))

    row-view : get_or (row_in W s a t b) (s + view_from) 0 ≡ b
    row-view = get_or-set_same two (s + view_from) b 0 (omega (arith, two-long))

-- ---- the groups

module _ (W : List ℕ) (s : ℕ) (l : List Group) where
  abbrev set1 : List ℕ
  set1 = set W (s + bound_from) (told_set says_bound l)

  abbrev set2 : List ℕ
  set2 = set set1 (s + barred_from) (told_set says_barred l)

  abbrev set3 : List ℕ
  set3 = set set2 (s + stored_from) (told_set says_stored l)

  abbrev pairs : List ℕ
  pairs = told_words (take 64 l)

  set1-long : length set1 ≡ length W
  set1-long = length-set W (s + bound_from) (told_set says_bound l)

  set2-long : length set2 ≡ length W
  set2-long = length-set set1 (s + barred_from) (told_set says_barred l) ∙ set1-long

  set3-long : length set3 ≡ length W
  set3-long = length-set set2 (s + stored_from) (told_set says_stored l) ∙ set2-long

  pairs-few : length pairs ≤ 128
  pairs-few = omega (arith, words-length (take 64 l), length-take 64 l)

  report-long : length (report_in W s l) ≡ length W
  unfolding report_in
  report-long = length-sets set3 (told_from + s * 128) pairs ∙ set3-long

  -- a word outside of the pairs
  report-low : (i : ℕ) → (i < told_from + s * 128) ⊎ (told_from + s * 128 + 128 ≤ i) → get_or (report_in W s l) i 0 ≡ get_or set3 i 0
  unfolding report_in
  report-low i (inl h) = sets-outside pairs set3 (told_from + s * 128) i (inl h)
  report-low i (inr h) = sets-outside pairs set3 (told_from + s * 128) i (inr (omega (arith, pairs-few)))

  report-others : (i : ℕ) → (i ≡ s + bound_from → ⊥) → (i ≡ s + barred_from → ⊥) → (i ≡ s + stored_from → ⊥) → (i < told_from + s * 128) ⊎ (told_from + s * 128 + 128 ≤ i)
      → get_or (report_in W s l) i 0 ≡ get_or W i 0
  report-others i e f g h =
      report-low i h ∙ get_or-set_other set2 (s + stored_from) i (told_set says_stored l) 0 g ∙ get_or-set_other set1 (s + barred_from) i (told_set says_barred l) 0 f
      ∙ get_or-set_other W (s + bound_from) i (told_set says_bound l) 0 e

  module _ (n : ℕ) (e : s ≡ min n 511) (long : length W ≡ pool_words) where
    far : s ≤ 511
    far = omega arith

    column : (f x : ℕ) → f ≤ stored_from → get_or set3 (s + f) 0 ≡ x → word (report_in W s l) n f ≡ x
    unfolding word
    column f x h q = ap (λ x. get_or (report_in W s l) (x + f) 0) (sym e) ∙ report-low (s + f) (inl (omega (arith, far))) ∙ q

    bound-there : told_bound (report_in W s l) n ≡ told_set says_bound l
    bound-there =
        column bound_from _ (omega arith)
        (get_or-set_other set2 (s + stored_from) (s + bound_from) (told_set says_stored l) 0 (λ q. omega arith) ∙ get_or-set_other set1 (s + barred_from) (s + bound_from) (told_set says_barred l) 0 (λ q. omega arith)
        ∙ get_or-set_same W (s + bound_from) (told_set says_bound l) 0 (omega (arith, far)))

    barred-there : told_barred (report_in W s l) n ≡ told_set says_barred l
    barred-there =
        column barred_from _ (omega arith)
        (get_or-set_other set2 (s + stored_from) (s + barred_from) (told_set says_stored l) 0 (λ q. omega arith) ∙ get_or-set_same set1 (s + barred_from) (told_set says_barred l) 0 (omega (arith, far, set1-long)))

    stored_there : told_stored (report_in W s l) n ≡ told_set says_stored l
    stored_there = column stored_from _ (omega arith) (get_or-set_same set2 (s + stored_from) (told_set says_stored l) 0 (omega (arith, far, set2-long)))

    pair-there : (p : ℕ) → p < length pairs → get_or (report_in W s l) (told_from + min n 511 * 128 + p) 0 ≡ get_or pairs p 0
    unfolding report_in
    pair-there p h =
        ap (λ x. get_or (report_in W s l) (told_from + x * 128 + p) 0) (sym e) ∙ sets-inside pairs set3 (told_from + s * 128) p h (omega (arith, far, pairs-few, set3-long))

    module _ (c : ℕ) (f : ℕ → Group) (is : l ≡ list_of c f) (few : c ≤ 64) (ok : (j : ℕ) → Tellable (f j)) where
      many : length l ≡ c
      many = ap length is ∙ list_of-length c f

      kept-all : take 64 l ≡ l
      kept-all = take_all 64 l (omega (arith, many))

      pairs-many : length pairs ≡ 2 * c
      pairs-many = words-length (take 64 l) ∙ ap (λ k. 2 * length k) kept-all ∙ ap (λ k. 2 * k) many

      group-there : (j : ℕ) → j < c → get_or l j no_group ≡ f j
      group-there j h = ap (λ k. get_or k j no_group) is ∙ list_of-at c f j no_group h

      said-there : (says : Group → Bool) (x j : ℕ) → j < c → x ≡ told_set says l → bit x j ≡ says (f j)
      said-there says x j h q = ap (λ x. bit x j) q ∙ set-bit says l j (omega arith) ∙ ap says (group-there j h)

      payload-there : (j : ℕ) → j < c → told_payload (report_in W s l) n j ≡ (f j).payload
      unfolding told_payload
      payload-there j h = pair-there (2 * j) (omega (arith, pairs-many)) ∙ ap (λ k. get_or (told_words k) (2 * j) 0) kept-all ∙ words-payload l j ∙ ap (λ g. g.payload) (group-there j h)

      kept_there : (j : ℕ) → j < c → told_kept (report_in W s l) n j ≡ (f j).kept
      unfolding told_kept
      kept_there j h =
          let q : told_from + min n 511 * 128 + 2 * j + 1 ≡ told_from + min n 511 * 128 + (2 * j + 1) = omega arith in
          ap (λ i. get_or (report_in W s l) i 0) q ∙ pair-there (2 * j + 1) (omega (arith, pairs-many)) ∙ ap (λ k. get_or (told_words k) (2 * j + 1) 0) kept-all ∙ words-kept l j ∙ ap (λ g. g.kept) (group-there j h)

      told-there : (j : ℕ) → j < c → told_at (report_in W s l) n j ≡ f j
      told-there j h = told-parts _ _ _ _ _ _ (said-there says_bound _ j h bound-there) (said-there says_barred _ j h barred-there) (said-there says_stored _ j h stored_there) (payload-there j h) (kept_there j h) (ok j)

      pub report-there : list_of c (told_at (report_in W s l) n) ≡ l
      report-there = list_of-cong c (told_at (report_in W s l) n) f told-there ∙ sym is

-- of a statement of any kind
module _ (W : List ℕ) (s kind : ℕ) (l : List Group) where
  pub groups-long : length (groups_in W s kind l) ≡ length W
  unfolding groups_in
  groups-long = go (eqb kind 5)
    where
      go : (b : Bool) → length (cond b (report_in W s l) (set W (s + payload_from) (get_or l 0 no_group).payload)) ≡ length W
      go true = report-long W s l
      go false = length-set W (s + payload_from) (get_or l 0 no_group).payload

  pub groups-others : (i : ℕ) → (i ≡ s + payload_from → ⊥) → (i ≡ s + bound_from → ⊥) → (i ≡ s + barred_from → ⊥) → (i ≡ s + stored_from → ⊥) → (i < told_from + s * 128) ⊎ (told_from + s * 128 + 128 ≤ i)
      → get_or (groups_in W s kind l) i 0 ≡ get_or W i 0
  unfolding groups_in
  groups-others i d e f g h = go (eqb kind 5)
    where
      go : (b : Bool) → get_or (cond b (report_in W s l) (set W (s + payload_from) (get_or l 0 no_group).payload)) i 0 ≡ get_or W i 0
      go true = report-others W s l i e f g h
      go false = get_or-set_other W (s + payload_from) i (get_or l 0 no_group).payload 0 d

-- ---- whose word it is

abbrev owner_by : ℕ → Bool → Bool → ℕ
owner_by i x y = if x then i % 512 else if y then (i - views_from) / 16 else (i - told_from) / 128

pub owner-low : (i : ℕ) → i < views_from → owner i ≡ i % 512
unfolding owner
owner-low i l = ap (λ b. owner_by i b (ltb i told_from)) (lt-ltb i views_from l)

pub owner-view : (i : ℕ) → views_from ≤ i → i < told_from → owner i ≡ (i - views_from) / 16
unfolding owner
owner-view i l h = ap₂ (owner_by i) (le-ltb i views_from l) (lt-ltb i told_from h)

pub owner-told : (i : ℕ) → told_from ≤ i → owner i ≡ (i - told_from) / 128
unfolding owner
owner-told i l = ap₂ (owner_by i) (le-ltb i views_from (omega arith)) (le-ltb i told_from l)

-- ---- a whole statement

-- no more than 16 views are kept
kept-views : (h : History) → views_is h ≡ take 16 (first_views h.len h.views)
unfolding views_is
kept-views h = elim (dec_lt h.len 16) [
  | yes l ↦ (let e : min h.len 16 ≡ h.len = omega arith in ap (λ n. list_of n (held_at h.views)) e ∙ sym (take_all 16 (list_of h.len (held_at h.views)) (omega (arith, list_of-length h.len (held_at h.views)))))
  | no l ↦ (let e : min h.len 16 ≡ 16 = omega arith in ap (λ n. list_of n (held_at h.views)) e ∙ sym (take-list_of h.len 16 (held_at h.views) (omega arith)))
] ∙ ap (take 16) (sym (views-listed h.len h.views))

-- word by word it is the memory with the statement
put-at : (W : List ℕ) (n s a t b : ℕ) (vs : List ℕ) (x : Stmt) → s ≡ n → a ≡ head_word x → t ≡ word_of x.at → b ≡ word_of x.view → vs ≡ map word_of (take 16 x.views)
    → groups_in (sets (row_in W s a t b) (views_from + s * 16) vs) s x.kind x.groups ≡ put_at W n x
unfolding put_at
put-at W n s a t b vs x e f j g m i = groups_in (sets (row_in W (e i) (f i) (j i) (g i)) (views_from + e i * 16) (m i)) (e i) x.kind x.groups

-- how many groups there are

pub many-few : (kind groups : ℕ) → groups_many kind groups ≤ 64
many-few kind groups = go (eqb kind 5)
  where
    go : (b : Bool) → cond b (min groups 64) 1 ≤ 64
    go true = omega arith
    go false = omega arith

groups-many : (kind groups payload : ℕ) (B : List ℕ) → min (length (groups_of kind groups payload B)) 64 ≡ groups_many kind groups
unfolding groups_of
groups-many kind groups payload B = go (eqb kind 5)
  where
    go : (b : Bool) → min (length (cond b (list_of (min groups 64) (group_at B)) (only payload ∷ []))) 64 ≡ cond b (min groups 64) 1
    go true = let e : min (min groups 64) 64 ≡ min groups 64 = omega arith in ap (λ k. min k 64) (list_of-length (min groups 64) (group_at B)) ∙ e
    go false = refl

-- the head of a Statement is that of what it means
head-held : (st : Statement) (B : List ℕ) → head_word_of_held st ≡ head_word (stmt_of st B)
unfolding stmt_of head_of
head-held st B =
    head-word-is (stmt_of st B) (head_of_held st) (min st.history.len 16) (groups_many st.kind st.groups) refl (ap (λ n. min n 16) (sym (views-length st.history.len st.history.views)))
    (sym (groups-many st.kind st.groups st.payload B))

held-head : (st : Statement) (B : List ℕ) → st.kind < 256 → st.origin < 256 → st.notice < 256 → IsHead (head_word_of_held st) (stmt_of st B) (min st.history.len 16) (groups_many st.kind st.groups)
unfolding stmt_of head_of
held-head st B lk lo ln = head-back (stmt_of st B) (head_of_held st) (min st.history.len 16) (groups_many st.kind st.groups) refl lk lo ln (omega arith) (many-few st.kind st.groups)

-- the payload of a statement that is no report
payload-is : (M : List ℕ) (s n m : ℕ) → s ≡ min n 511 → s ≤ 511 → length M ≡ pool_words → (U : List ℕ) → U ≡ set M (s + payload_from) m → word U n payload_from ≡ m
unfolding word
payload-is M s n m e l long U q = ap₂ (λ u x. get_or u (x + payload_from) 0) q (sym e) ∙ get_or-set_same M (s + payload_from) m 0 (omega arith)

module _ (W M U : List ℕ) (n s : ℕ) (st : Statement) (B : List ℕ) (a t b : ℕ) (long : length W ≡ pool_words) (e : s ≡ min n 511)
    (v : M ≡ sets (row_in W s a t b) (views_from + s * 16) (map word_of (views_is st.history))) (u : U ≡ groups_in M s st.kind (groups_of st.kind st.groups st.payload B)) where
  abbrev told : List Group
  told = groups_of st.kind st.groups st.payload B

  abbrev row : List ℕ
  row = row_in W s a t b

  low : s ≤ 511
  low = omega arith

  -- the words of the views, which are at most 16
  words : List ℕ
  words = map word_of (views_is st.history)

  words_are : words ≡ list_of (min st.history.len 16) (held_word st.history.views)
  unfolding views_is words
  words_are = map-list_of word_of (min st.history.len 16) (held_at st.history.views)

  words_long : length words ≡ min st.history.len 16
  words_long = ap length words_are ∙ list_of-length (min st.history.len 16) (held_word st.history.views)

  views-long : length M ≡ pool_words
  views-long = row-views-long W s a t b M (views_from + s * 16) (map word_of (views_is st.history)) v ∙ long

  -- a word of the first columns is as the row has it
  column-is : (i x : ℕ) → i < payload_from → get_or row i 0 ≡ x → get_or U i 0 ≡ x
  unfolding words
  column-is i x l q =
      ap (λ l. get_or l i 0) u ∙ groups-others M s st.kind told i (λ d. omega arith) (λ d. omega arith) (λ d. omega arith) (λ d. omega arith) (inl (omega arith))
      ∙ ap (λ l. get_or l i 0) v ∙ sets-outside words row (views_from + s * 16) i (inl (omega arith)) ∙ q

  head-is : head_at U n ≡ a
  unfolding head_at
  head-is = ap (λ x. get_or U x 0) (sym e) ∙ column-is s a (omega (arith, low)) (row-head W s a t b long low)

  word-is : (f x : ℕ) → f ≤ view_from → get_or row (s + f) 0 ≡ x → word U n f ≡ x
  unfolding word
  word-is f x l q = ap (λ x. get_or U (x + f) 0) (sym e) ∙ column-is (s + f) x (omega (arith, low)) q

  view-is : (p : ℕ) → p < min st.history.len 16 → view_at U n p ≡ held_at st.history.views p
  unfolding view_word words
  view-is p l =
      ap (λ x. view_in (get_or U (views_from + x * 16 + p) 0)) (sym e)
      ∙ ap view_in
      (ap (λ l. get_or l (views_from + s * 16 + p) 0) u
      ∙ groups-others M s st.kind told (views_from + s * 16 + p) (λ d. omega arith) (λ d. omega arith) (λ d. omega arith) (λ d. omega arith) (inl (omega arith))
      ∙ ap (λ l. get_or l (views_from + s * 16 + p) 0) v ∙ sets-inside words row (views_from + s * 16) p (omega (arith, words_long)) (omega (arith, words_long, row-long W s a t b))
      ∙ ap (λ l. get_or l p 0) words_are ∙ list_of-at (min st.history.len 16) (held_word st.history.views) p 0 l)
      ∙ word_in (get_or st.history.views p _)

  -- the groups, of a report and of another
  groups-are : (k g : ℕ) → k ≡ st.kind → g ≡ groups_many st.kind st.groups → cond (eqb k 5) (list_of g (told_at U n)) (only (word U n payload_from) ∷ []) ≡ (stmt_of st B).groups
  unfolding stmt_of groups_of groups_in
  groups-are k g ek eg = ap₂ (λ k g. cond (eqb k 5) (list_of g (told_at U n)) (only (word U n payload_from) ∷ [])) ek eg ∙ go (eqb st.kind 5) u
    where
      go : (b : Bool) → U ≡ cond b (report_in M s (cond b (list_of (min st.groups 64) (group_at B)) (only st.payload ∷ []))) (set M (s + payload_from) (get_or (cond b (list_of (min st.groups 64) (group_at B)) (only st.payload ∷ [])) 0 no_group).payload)
          → cond b (list_of (cond b (min st.groups 64) 1) (told_at U n)) (only (word U n payload_from) ∷ []) ≡ cond b (list_of (min st.groups 64) (group_at B)) (only st.payload ∷ [])
      go true q =
          ap (λ m. list_of (min st.groups 64) (told_at m n)) q
          ∙ report-there M s (list_of (min st.groups 64) (group_at B)) n e views-long (min st.groups 64) (group_at B) refl (omega arith) (block-tellable B)
      go false q = ap (λ m. only m ∷ []) (payload-is M s n st.payload e low views-long U q)

  there : IsHead a (stmt_of st B) (min st.history.len 16) (groups_many st.kind st.groups) → view_of t ≡ view_is st.at → view_of b ≡ view_is st.view → st.history.len ≤ 16 → stmt_at U n ≡ stmt_of st B
  unfolding stmt_at stmt_of groups_at count_of group_count
  there h vt vb l =
      stmts
      (ap (λ x. x % 256) head-is ∙ h.kind)
      (ap (λ x. x / 256 % 256) head-is ∙ h.origin)
      (ap view_in (word-is at_from t (omega arith) (row-at W s a t b long low)) ∙ view-whole t vt (held_fits st.at))
      (ap view_in (word-is view_from b (omega arith) (row-view W s a t b long low)) ∙ view-whole b vb (held_fits st.view))
      (ap (λ x. x / 65536 % 256) head-is ∙ h.notice)
      (groups-are (head_at U n % 256) (min (head_at U n / 4294967296 % 256) 64) (ap (λ x. x % 256) head-is ∙ h.kind) (ap (λ x. min (x / 4294967296 % 256) 64) head-is ∙ h.groups))
      (ap (λ x. list_of (min (x / 16777216 % 256) 16) (view_at U n)) head-is
      ∙ ap (λ k. list_of k (view_at U n)) (h.count ∙ (let q : min st.history.len 16 ≡ st.history.len = omega arith in q))
      ∙ list_of-cong st.history.len (view_at U n) (held_at st.history.views) (λ p m. view-is p (omega arith)) ∙ sym (views-listed st.history.len st.history.views))

  pub put_is : a ≡ head_word_of_held st → st.kind < 256 → st.origin < 256 → st.notice < 256 → t < 18446744073709551616 → view_of t ≡ view_is st.at → b < 18446744073709551616 → view_of b ≡ view_is st.view → Put W U n st B
  unfolding stmt_of
  put_is h lk lo ln lt vt lb vb = record {
    is = u ∙ ap (λ m. groups_in m s st.kind told) v
        ∙ put-at W (min n 511) s a t b (map word_of (views_is st.history)) (stmt_of st B) e (h ∙ head-held st B) (word-of t (view_is st.at) lt vt) (word-of b (view_is st.view) lb vb) (ap (map word_of) (kept-views st.history));
    there = there (rw h (held-head st B lk lo ln)) vt vb;
  }

-- ---- what changes besides

pub beside-put : (W : List ℕ) (n : ℕ) (s : Stmt) → n ≤ 511 → Beside W (put_at W n s) n
unfolding put_at
beside-put W n s m = record {
  long = groups-long M n s.kind s.groups ∙ length-sets row (views_from + n * 16) vs ∙ row-long W n (head_word s) (word_of s.at) (word_of s.view);
  others = λ i o k. groups-others M n s.kind s.groups i (λ e. o (own i payload_from (omega arith) e)) (λ e. o (own i bound_from (omega arith) e)) (λ e. o (own i barred_from (omega arith) e))
      (λ e. o (own i stored_from (omega arith) e)) (beyond i o (dec_lt i (told_from + n * 128))) ∙ sets-outside vs row (views_from + n * 16) i (far i o (dec_lt i (views_from + n * 16)))
      ∙ row-others W n (head_word s) (word_of s.at) (word_of s.view) i (λ e. o (own i 0 (omega arith) (omega arith))) (λ e. o (own i at_from (omega arith) e)) (λ e. o (own i view_from (omega arith) e));
}
  where
    row : List ℕ
    row = row_in W n (head_word s) (word_of s.at) (word_of s.view)

    vs : List ℕ
    vs = map word_of (take 16 s.views)

    M : List ℕ
    M = sets row (views_from + n * 16) vs

    few : length vs ≤ 16
    few = omega (arith, length-map (take 16 s.views) word_of, length-take 16 s.views)

    own : (i f : ℕ) → (f ≤ stored_from) × (f % 512 ≡ 0) → i ≡ n + f → owner i ≡ n
    own i f l e = omega (arith, owner-low i (omega arith))

    far : (i : ℕ) → (owner i ≡ n → ⊥) → Dec (i < views_from + n * 16) → (i < views_from + n * 16) ⊎ (views_from + n * 16 + length vs ≤ i)
    far i o (yes l) = inl l
    far i o (no l) = elim (dec_lt i (views_from + n * 16 + 16)) [ yes h ↦ absurd (o (omega (arith, owner-view i (omega arith) (omega arith)))) | no h ↦ inr (omega (arith, few)) ]

    beyond : (i : ℕ) → (owner i ≡ n → ⊥) → Dec (i < told_from + n * 128) → (i < told_from + n * 128) ⊎ (told_from + n * 128 + 128 ≤ i)
    beyond i o (yes l) = inl l
    beyond i o (no l) = elim (dec_lt i (told_from + n * 128 + 128)) [ yes h ↦ absurd (o (omega (arith, owner-told i (omega arith)))) | no h ↦ inr (omega arith) ]

-- the number of statements is of none
pub beside-count : (W U : List ℕ) (n v : ℕ) → Beside W U n → Beside W (set U last_word v) n
beside-count W U n v b = record { long = length-set U last_word v ∙ b.long; others = λ i o k. get_or-set_other U last_word i v 0 k ∙ b.others i o k }

pub beside_same : (W : List ℕ) (n : ℕ) → Beside W W n
beside_same W n = record { long = refl; others = λ i o k. refl }
