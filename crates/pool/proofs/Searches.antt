-- Laws of comparing, finding and appending statements, and of what stays as it was.
-- Assumes nothing.
use Rattle.std.specs.Prelude.{if◌then◌else◌, Result, Ok, Err, Some, None}
use mathlib.Core.Path.{◌≡◌, refl, sym, ap, ap₂, subst, ◌∙◌}
use mathlib.Core.Bool.{Bool, true, false, cond, not, ◌&&◌, ◌||◌, true≢false}
use mathlib.Core.List.{List, [], ◌∷◌}
use mathlib.Core.Option.{Option, some, none}
use Prim.Native.Nat.{ℕ, zero, suc, ◌+◌, ◌*◌, ◌/◌, ◌%◌, ◌≤◌, ◌<◌, min}
use native.Mathlib.Omega.{arith}
use lib.Dec.{eqb, leb}
use lib.ListN.{length, get_or, set, replicate, length-set}
use lib.Seq.{get_or-set_same}
use borrow.Author.Tests.{eq-eqb, eqb-true, lt-ltb, le-ltb, le-leb, lt-leb, leb-false}
use Rattle.protocol.specs.Lists.{find, is_some, when, list_of}
use Rattle.protocol.specs.Sets.{bit}
use Rattle.protocol.specs.View.{same_view}
use Rattle.protocol.specs.History.{same_views}
use Rattle.protocol.specs.Statement.{Group, Stmt, only, tells, same_groups, same_stmt}
use Rattle.protocol.proofs.Says.{is_true, from-true, says_map, says-unique}
use Rattle.protocol.proofs.Numbered.{list_of-cong}
use Rattle.protocol.proofs.Decided.{says-sames, says_same}
use Rattle.protocol.proofs.Asked.{says-same-groups, says-same-stmt}
use Rattle.views.specs.View.{view_of, view_in}
use Rattle.views.specs.Held.{view_is}
use Rattle.views.specs.Options.{option_of}
use Rattle.std.specs.List.{range_with_len, find as first_of}
use Rattle.std.specs.Option.{option_map}
use Rattle.std.specs.Prelude as Prelude
use Rattle.std.proofs.lemmas.List.{map-id}
use Rattle.std.proofs.lemmas.Iterator.Adapters.{option_map_id}
use Rattle.views.proofs.Chains.{map-below, find-is}
use Rattle.views.proofs.Options.{option-some, option-none}
use Rattle.views.proofs.Views.{fails, same-yes, view-eqb}
use Rattle.statements.specs.declared.Statement.{Statement}
use Rattle.statements.specs.Block.{bound_or_barred, groups_of}
use Rattle.statements.specs.Meaning.{first_views, stmt_of}
use Rattle.pool.specs.declared.Full.{Full}
use Rattle.pool.specs.Pool.{at_from, view_from, payload_from, bound_from, barred_from, stored_from, views_from, told_from, last_word, pool_words, head_at, word, view_word, count_of, view_at, group_count, told_payload, told_kept, told_by, told_at, groups_at, stmt_at, pool_len, pool_of}
use Rattle.pool.specs.Steps.{head_of_held, is_other, Sought, Put}
use Rattle.pool.specs.Changes.{head_of, owner, Beside, put_at, pool_number, no_room, placed_at, pooled_in, Appended, Cleared}
use Rattle.pool.proofs.Parts.{low_parts}
use Rattle.pool.proofs.Writes.{stmts, owner-low, owner-view, owner-told, beside-put, beside-count, beside_same}

-- ---- two statements

-- they differ if a part of them does
pub differs : {A : Type 0} (g : Stmt → A) (a b : Stmt) → (g a ≡ g b → ⊥) → false ≡ same_stmt a b
differs g a b d = sym (fails says-same-stmt (λ e. d (ap g e)))

-- the head of statement n is the low part of its word
pub head_at_lem : (W : List ℕ) (n w : ℕ) → w ≡ head_at W n → w % 16777216 ≡ head_of (stmt_at W n)
unfolding head_of stmt_at
head_at_lem W n w e = ap (λ x. x % 16777216) e ∙ low_parts (head_at W n)

pub other-is : (s : Stmt) (key t h a : ℕ) → h ≡ head_of s → view_of a ≡ s.at → a < 18446744073709551616 → t < 18446744073709551616 → (not (eqb h key) || not (eqb a t)) ≡ is_other s key t
unfolding is_other
other-is s key t h a e f p q = ap₂ (λ x y. not x || not y) (ap (λ x. eqb x key) e) (view-eqb a s.at t f p q)

-- a statement with another head or at than st is another
pub others-differ : (st : Statement) (B : List ℕ) (b : Stmt) (key t : ℕ) (r : Bool) → r ≡ is_other b key t → r ≡ true → key ≡ head_of_held st → view_of t ≡ view_is st.at → same_stmt (stmt_of st B) b ≡ false
unfolding is_other stmt_of head_of
others-differ st B b key t r e g k v = fails says-same-stmt (λ q. true≢false (sym g ∙ e ∙ ap₂ (λ x y. not x || not y) (eq-eqb (head_of b) key (ap head_of (sym q) ∙ sym k)) (same-yes b.at (view_of t) (ap (λ s. s.at) (sym q) ∙ sym v))))

-- one with another view, or other views, is another

pub history-other : (st : Statement) (B : List ℕ) (b : Stmt) (r : Bool) → r ≡ same_views (first_views st.history.len st.history.views) b.views → r ≡ false → same_stmt (stmt_of st B) b ≡ false
unfolding stmt_of
history-other st B b r e t = sym (differs (λ s. s.views) (stmt_of st B) b (λ q. true≢false (sym (is_true (same_views (first_views st.history.len st.history.views) b.views) ((says-sames (first_views st.history.len st.history.views) b.views).complete q)) ∙ sym e ∙ t)))

-- where all else is the same, the views tell
pub views-tell : (a b : Stmt) (r : Bool) → a.kind ≡ b.kind → a.origin ≡ b.origin → a.at ≡ b.at → a.view ≡ b.view → a.notice ≡ b.notice → a.groups ≡ b.groups → r ≡ same_views a.views b.views → r ≡ same_stmt a b
views-tell a b r e1 e2 e3 e4 e5 e6 q = q ∙ says-unique (says_map (stmts e1 e2 e3 e4 e5 e6) (ap (λ s. s.views)) (says-sames a.views b.views)) says-same-stmt

-- the groups, by their test

pub groups-same : {k l : List Group} (r : Bool) → r ≡ same_groups k l → r ≡ true → k ≡ l
groups-same {k} {l} r e t = (says-same-groups k l).sound (from-true (sym e ∙ t))

pub groups-other : (a b : Stmt) (r : Bool) → r ≡ same_groups a.groups b.groups → r ≡ false → false ≡ same_stmt a b
groups-other a b r e t = differs (λ s. s.groups) a b (λ q. true≢false (sym (is_true (same_groups a.groups b.groups) ((says-same-groups a.groups b.groups).complete q)) ∙ sym e ∙ t))

-- the tests of a search tell whether statement b is the one that is sought

both-tests : (x y : Bool) → (not x || not y) ≡ false → (x ≡ true) × (y ≡ true)
both-tests true true e = (refl, refl)
both-tests true false e = absurd (true≢false e)
both-tests false y e = absurd (true≢false e)

alike : (b : Stmt) (key t : ℕ) → is_other b key t ≡ false → (head_of b ≡ key) × (b.at ≡ view_of t)
unfolding is_other
alike b key t e =
    let p : (eqb (head_of b) key ≡ true) × (same_view b.at (view_of t) ≡ true) = both-tests (eqb (head_of b) key) (same_view b.at (view_of t)) e in
    (eqb-true (head_of b) key p.0, says_same.sound (from-true p.1))

module _ (st : Statement) (B : List ℕ) (b : Stmt) (key t v : ℕ) (s : Sought st key t v) (small : (b.kind < 256) × (b.origin < 256)) where
  -- statement b has the head and the at that are sought
  module _ (eo : is_other b key t ≡ false) where
    heads : b.kind + b.origin * 256 + b.notice * 65536 ≡ st.kind + st.origin * 256 + st.notice * 65536
    unfolding head_of
    heads = (alike b key t eo).0 ∙ s.head

    kinds : st.kind ≡ b.kind
    kinds = omega (arith, heads, s.small)

    of-kind : same_groups (groups_of b.kind st.groups st.payload B) b.groups ≡ same_groups (groups_of st.kind st.groups st.payload B) b.groups
    of-kind = ap (λ k. same_groups (groups_of k st.groups st.payload B) b.groups) (sym kinds)

  pub sought : (not (is_other b key t) && (same_view b.view (view_of v) && (same_views (first_views st.history.len st.history.views) b.views && same_groups (groups_of b.kind st.groups st.payload B) b.groups))) ≡ same_stmt (stmt_of st B) b
  unfolding stmt_of
  sought = go (is_other b key t) refl (same_view b.view (view_of v)) refl (same_views (first_views st.history.len st.history.views) b.views) refl (same_groups (groups_of b.kind st.groups st.payload B) b.groups) refl
    where
      go : (o : Bool) → is_other b key t ≡ o → (y : Bool) → same_view b.view (view_of v) ≡ y → (h : Bool) → same_views (first_views st.history.len st.history.views) b.views ≡ h
          → (g : Bool) → same_groups (groups_of b.kind st.groups st.payload B) b.groups ≡ g → (not o && (y && (h && g))) ≡ same_stmt (stmt_of st B) b
      go true eo y ey h eh g eg = sym (others-differ st B b key t true (sym eo) refl s.head s.place)
      go false eo false ey h eh g eg = differs (λ s. s.view) (stmt_of st B) b (λ q. true≢false (sym (same-yes b.view (view_of v) (sym q ∙ sym s.seen)) ∙ ey))
      go false eo true ey false eh g eg = sym (history-other st B b false (sym eh) refl)
      go false eo true ey true eh false eg = groups-other (stmt_of st B) b false (sym eg ∙ of-kind eo) refl
      go false eo true ey true eh true eg =
          views-tell (stmt_of st B) b true (kinds eo) (omega (arith, heads eo, s.small)) (sym s.place ∙ sym (alike b key t eo).1) (sym s.seen ∙ sym (says_same.sound (from-true ey))) (omega (arith, heads eo, s.small)) (groups-same true (sym eg ∙ of-kind eo) refl) (sym eh)

-- ---- a number of the pool

-- the first number of the pool whose statement is s, as a range is searched for it
pub found-in : (W : List ℕ) (s : Stmt) (n : ℕ) (r : Prelude.Option ℕ) → n ≡ pool_len W → option_map (λ x. x) r ≡ first_of (λ i. same_stmt s (stmt_at W i)) (range_with_len 0 n) → r ≡ option_of (pool_number W s)
unfolding pool_number
found-in W s n r e q =
    sym (option_map_id r) ∙ q ∙ find-is (λ i. same_stmt s (stmt_at W i)) (range_with_len 0 n)
    ∙ ap (λ l. option_of (find (λ i. same_stmt s (stmt_at W i)) l)) (sym (map-id (range_with_len 0 n)) ∙ map-below (λ i. i) n ∙ ap (λ k. list_of k (λ i. i)) e)

-- there was room, or there was none

pub full≢at : {n : ℕ} → ◌≡◌ {A = Result ℕ Full} (Err no_room) (Ok n) → ⊥
full≢at e = let z : ◌≡◌ {A = ℕ} 0 1 = cc in omega arith

pub at-injective : {m n : ℕ} → ◌≡◌ {A = Result ℕ Full} (Ok m) (Ok n) → m ≡ n
at-injective e = cc

-- ---- what stays as it was

-- a statement whose words are as they were
stmt-kept : (W W' : List ℕ) (m : ℕ) → ((i : ℕ) → owner i ≡ min m 511 → get_or W' i 0 ≡ get_or W i 0) → stmt_at W' m ≡ stmt_at W m
unfolding stmt_at groups_at count_of group_count told_by head_at word view_word told_payload told_kept
stmt-kept W W' m k =
    stmts (ap (λ x. x % 256) head) (ap (λ x. x / 256 % 256) head) (ap view_in (column at_from (omega arith))) (ap view_in (column view_from (omega arith))) (ap (λ x. x / 65536 % 256) head)
    (ap (λ x. cond (eqb (x % 256) 5) (list_of (min (x / 4294967296 % 256) 64) (told_at W' m)) (only (get_or W' (min m 511 + payload_from) 0) ∷ [])) head
    ∙ ap₂ (λ l p. cond (eqb (get_or W (min m 511) 0 % 256) 5) l (only p ∷ [])) (list_of-cong (group_count W m) (told_at W' m) (told_at W m) (λ j l. told j (omega arith))) (column payload_from (omega arith)))
    (ap (λ x. list_of (min (x / 16777216 % 256) 16) (view_at W' m)) head ∙ list_of-cong (count_of W m) (view_at W' m) (view_at W m) (λ p l. view p (omega arith)))
  where
    head : get_or W' (min m 511) 0 ≡ get_or W (min m 511) 0
    head = k (min m 511) (omega (arith, owner-low (min m 511) (omega arith)))

    column : (f : ℕ) → (f ≤ stored_from) × (f % 512 ≡ 0) → get_or W' (min m 511 + f) 0 ≡ get_or W (min m 511 + f) 0
    column f l = k (min m 511 + f) (omega (arith, owner-low (min m 511 + f) (omega arith)))

    view : (p : ℕ) → p < 16 → view_at W' m p ≡ view_at W m p
    view p l = ap view_in (k (views_from + min m 511 * 16 + p) (omega (arith, owner-view (views_from + min m 511 * 16 + p) (omega arith) (omega arith))))

    pair : (p : ℕ) → p < 128 → get_or W' (told_from + min m 511 * 128 + p) 0 ≡ get_or W (told_from + min m 511 * 128 + p) 0
    pair p l = k (told_from + min m 511 * 128 + p) (omega (arith, owner-told (told_from + min m 511 * 128 + p) (omega arith)))

    told : (j : ℕ) → j < 64 → told_at W' m j ≡ told_at W m j
    told j l i =
        let q : told_from + min m 511 * 128 + 2 * j + 1 ≡ told_from + min m 511 * 128 + (2 * j + 1) = omega arith in
        let r : get_or W' (told_from + min m 511 * 128 + 2 * j + 1) 0 ≡ get_or W (told_from + min m 511 * 128 + 2 * j + 1) 0 = ap (λ i. get_or W' i 0) q ∙ pair (2 * j + 1) (omega arith) ∙ ap (λ i. get_or W i 0) (sym q) in
        tells (bound_or_barred (bit (column bound_from (omega arith) i) j) (bit (column barred_from (omega arith) i) j) (pair (2 * j) (omega arith) i)) (when (bit (column stored_from (omega arith) i) j) (r i))

-- another statement than the one whose words changed
pub beside-kept : (W W' : List ℕ) (n m : ℕ) → Beside W W' n → (min m 511 ≡ n → ⊥) → stmt_at W' m ≡ stmt_at W m
beside-kept W W' n m b d = stmt-kept W W' m (λ i e. b.others i (λ q. d (sym e ∙ q)) (λ q. omega (arith, owner-told i (omega arith))))

-- the number of statements lies behind them all
count_kept : (W : List ℕ) (v m : ℕ) → stmt_at (set W last_word v) m ≡ stmt_at W m
count_kept W v m = beside-kept W (set W last_word v) 512 m (beside-count W W 512 v (beside_same W 512)) (λ q. omega arith)

counted : (U : List ℕ) (v : ℕ) → last_word < length U → v ≤ 512 → pool_len (set U last_word v) ≡ v
unfolding pool_len
counted U v l h = let g : get_or (set U last_word v) last_word 0 ≡ v = get_or-set_same U last_word v 0 l in omega arith

-- an empty pool
pub cleared : (W : List ℕ) → length W ≡ pool_words → Cleared W (set W last_word 0)
unfolding pool_of list_of
cleared W l =
    let z : pool_len (set W last_word 0) ≡ 0 = counted W 0 (omega arith) (omega arith) in
    record { is = refl; long = length-set W last_word 0 ∙ l; len = z; none = ap (λ n. list_of n (stmt_at (set W last_word 0))) z }

-- memory that is all 0
pub zeros : (w i : ℕ) → get_or (replicate {A = ℕ} w 0) i 0 ≡ 0
zeros zero i = refl
zeros (suc w) zero = refl
zeros (suc w) (suc i) = zeros w i

-- it is an empty pool
pub fresh : (w : ℕ) → (pool_len (replicate {A = ℕ} w 0) ≡ 0) × (pool_of (replicate {A = ℕ} w 0) ≡ [])
unfolding pool_len pool_of list_of
fresh w =
    let z : min (get_or (replicate {A = ℕ} w 0) last_word 0) 512 ≡ 0 = ap (λ x. min x 512) (zeros w last_word) in
    (z, ap (λ n. list_of n (stmt_at (replicate {A = ℕ} w 0))) z)

-- ---- one statement more

-- the memory after it, where it was found, where there is no room, and else
abbrev pooled_as : List ℕ → Stmt → Bool → List ℕ
pooled_as W s stays = if stays then W else set (put_at W (pool_len W) s) last_word (pool_len W + 1)

module _ (W : List ℕ) (st : Statement) (B : List ℕ) where
  stays : (o : Option ℕ) (b : Bool) → pool_number W (stmt_of st B) ≡ o → leb 512 (pool_len W) ≡ b → pooled_in W (stmt_of st B) ≡ pooled_as W (stmt_of st B) (is_some o || b)
  unfolding pooled_in
  stays o b e f = ap₂ (λ x y. pooled_as W (stmt_of st B) (is_some x || y)) e f

  pub append-old : (i : ℕ) → Some i ≡ option_of (pool_number W (stmt_of st B)) → Appended W W st B (Ok i)
  append-old i e =
      let o : pool_number W (stmt_of st B) ≡ some i = option-some (pool_number W (stmt_of st B)) i e in
      record {
        answer = ap (λ x. placed_at x (pool_len W)) (sym o);
        is = sym (stays (some i) _ o refl);
        old = λ j f. refl;
        full = λ l. refl;
        new = λ f l. absurd (let n : ◌≡◌ {A = ℕ} 0 1 = cc in omega arith);
      }

  pub append-full : (n : ℕ) → None ≡ option_of (pool_number W (stmt_of st B)) → n ≡ pool_len W → 512 ≤ n → Appended W W st B (Err no_room)
  append-full n e q l =
      let o : pool_number W (stmt_of st B) ≡ none = option-none (pool_number W (stmt_of st B)) e in
      record {
        answer = sym (ap (λ x. placed_at x (pool_len W)) o ∙ ap (λ b. if b then Ok (pool_len W) else (Err no_room)) (le-ltb (pool_len W) 512 (omega arith)));
        is = sym (stays none true o (le-leb 512 (pool_len W) (omega arith)));
        old = λ j f. refl;
        full = λ l. refl;
        new = λ f h. absurd (omega arith);
      }

  pub append-new : (n : ℕ) (U : List ℕ) → length W ≡ pool_words → None ≡ option_of (pool_number W (stmt_of st B)) → n ≡ pool_len W → n < 512 → Put W U n st B → Appended W (set U last_word (n + 1)) st B (Ok n)
  append-new n U long e q l p =
      let o : pool_number W (stmt_of st B) ≡ none = option-none (pool_number W (stmt_of st B)) e in
      let u : U ≡ put_at W (pool_len W) (stmt_of st B) = p.is ∙ (let k : min n 511 ≡ pool_len W = omega arith in ap (λ k. put_at W k (stmt_of st B)) k) in
      let b : Beside W U (pool_len W) = subst (λ k. Beside W k (pool_len W)) (sym u) (beside-put W (pool_len W) (stmt_of st B) (omega arith)) in
      let c : Beside W (set U last_word (n + 1)) (pool_len W) = beside-count W U (pool_len W) (n + 1) b in
      record {
        answer = sym (ap (λ x. placed_at x (pool_len W)) o ∙ ap (λ b. if b then Ok (pool_len W) else (Err no_room)) (lt-ltb (pool_len W) 512 (omega arith)) ∙ ap Ok (sym q));
        is = ap₂ (λ k m. set k last_word (m + 1)) u q ∙ sym (stays none false o (lt-leb 512 (pool_len W) (omega arith)));
        old = λ i f. absurd (let z : ◌≡◌ {A = ℕ} 0 1 = cc in omega arith);
        full = λ h. absurd (omega arith);
        new = λ f h. record {
          len = counted U (n + 1) (omega (arith, b.long)) (omega arith) ∙ ap (λ x. x + 1) q;
          there = λ k. ap (stmt_at (set U last_word (n + 1))) (sym q) ∙ count_kept U (n + 1) n ∙ p.there k;
          others = λ m d. beside-kept W (set U last_word (n + 1)) (pool_len W) m c d;
          beside = c;
        };
      }

-- whatever went in, the words of other statements are as before

pub pooled-beside : (W : List ℕ) (s : Stmt) → Beside W (pooled_in W s) (pool_len W)
unfolding pooled_in
pooled-beside W s = go (is_some (pool_number W s)) (leb 512 (pool_len W)) refl
  where
    go : (x y : Bool) → leb 512 (pool_len W) ≡ y → Beside W (pooled_as W s (x || y)) (pool_len W)
    go true y e = beside_same W (pool_len W)
    go false true e = beside_same W (pool_len W)
    go false false e = beside-count W (put_at W (pool_len W) s) (pool_len W) (pool_len W + 1) (beside-put W (pool_len W) s (omega (arith, leb-false 512 (pool_len W) e)))
