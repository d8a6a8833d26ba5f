-- The memory of a pool whose statements went into it one after another, and a record of given numbers.
-- Assumes nothing.
use Rattle.std.specs.Prelude.{if◌then◌else◌}
use mathlib.Core.Path.{◌≡◌, refl, sym, ap, ap₂, subst, ◌∙◌}
use mathlib.Core.Bool.{Bool, true, false, cond, not, ◌&&◌}
use mathlib.Core.List.{List, [], ◌∷◌, ◌++◌, map, foldl, foldl-append, append-nil, append_assoc}
use Prim.Native.Nat.{ℕ, zero, suc, ◌+◌, ◌-◌, ◌/◌, ◌%◌, ◌<◌, min}
use native.Mathlib.Omega.{arith}
use lib.Dec.{T, eqb, ltb, T_not}
use lib.ListN.{length, get_or, set, replicate, length-append, length-map, length-replicate, get_or-append, get_or-map}
use lib.Seq.{set-append_seam, get_or-set_same}
use Rattle.protocol.specs.Lists.{any, all, is_some, list_of}
use Rattle.protocol.specs.View.{View}
use Rattle.protocol.specs.Statement.{Stmt, only, no_stmt, same_stmt, field_rules}
use Rattle.protocol.specs.Pool.{pooled}
use Rattle.protocol.proofs.Says.{says-self, says-and, says-leb}
use Rattle.protocol.proofs.Numbered.{list_of-at}
use Rattle.views.specs.declared.View as held
use Rattle.views.specs.View.{view_of, word_of}
use Rattle.views.specs.Held.{view_is}
use Rattle.statements.specs.declared.Statement.{Statement}
use Rattle.statements.specs.Block.{group_at, groups_of}
use Rattle.statements.specs.Meaning.{Each, first_views, stmt_of, FitsView, FitsTold, Fits}
use Rattle.statements.proofs.FieldLaws.{views-length}
use Rattle.statements.proofs.Fits.{keeps-fits}
use Rattle.pool.specs.Pool.{stmt_at, pool_words, pool_len, pool_of, record_up_to, record_len, record_in, AllIn, Grows}
use Rattle.views.specs.Options.{option_of}
use Rattle.pool.specs.Steps.{head_word_of_held, Put}
use Rattle.pool.specs.Changes.{pooled_in, PushedTo, Emptied}
use Rattle.pool.specs.Changes as memories
use Rattle.pool.proofs.Writes.{stmts, put_is}
use Rattle.pool.proofs.Searches.{append-new, pooled-beside, fresh}
use Rattle.pool.proofs.Lists.{push-room-in, emptied}
use Rattle.engine.proofs.Pools.{there, absent, in-pool, grown-pool}
use Rattle.pool.proofs.Records.{pool-length}
use Rattle.host.proofs.Loading.{listed-all}
use Rattle.guarantee.proofs.Laws.{fails}

-- ---- lists by place

all-at : {A : Type 0} (p : A → Bool) (l : List A) (d : A) → T (all p l) → (i : ℕ) → i < length l → T (p (get_or l i d))
unfolding all
all-at p [] d t i h = absurd (omega arith)
all-at p (a ∷ l) d t zero h = ((says-and (says-self (p a)) (says-self (all p l))).sound t).0
all-at p (a ∷ l) d t (suc i) h = all-at p l d ((says-and (says-self (p a)) (says-self (all p l))).sound t).1 i (omega arith)

-- ---- a statement that fits is that of a struct

abbrev held_of : View → held.View
held_of v = record { joined = v.joined; left = v.left }

-- the struct of a view that fits means the view
held_back : (v : View) → FitsView v → view_is (held_of v) ≡ v
held_back v f =
    let x : v.joined % 65536 ≡ v.joined = omega (arith, f.joined) in
    let y : v.left % 65536 ≡ v.left = omega (arith, f.left) in
    ap₂ (λ j l. record { joined = j; left = l }) x y

views-back : (l : List View) → Each FitsView l → first_views (length l) (map held_of l) ≡ l
unfolding first_views
views-back [] f = refl
views-back (v ∷ l) f = ap₂ (λ u k. u ∷ k) (held_back v f.0) (views-back l f.1)

-- no report: what it means asks no block, and no number of notices
abbrev plain : Stmt → Bool
plain s = field_rules 16 1 s && not (eqb s.kind 5)

struct-of : (s : Stmt) → T (plain s) → (st : Statement) × (stmt_of st [] ≡ s)
unfolding stmt_of groups_of
struct-of s t =
    let (r, p) = (says-and (says-self (field_rules 16 1 s)) (says-self (not (eqb s.kind 5)))).sound t in
    let f = keeps-fits 1 s r in
    let other : eqb s.kind 5 ≡ false = fails (eqb s.kind 5) (T_not (eqb s.kind 5) p) in
    let (m, _, e) = subst (λ b. FitsTold b 1 s.groups) other f.told in (
      record {
        kind = s.kind;
        origin = s.origin;
        at = held_of s.at;
        view = held_of s.view;
        notice = s.notice;
        groups = 1;
        payload = m;
        history = record { views = map held_of s.views; len = length s.views };
      },
      stmts refl refl (held_back s.at f.first.at) (held_back s.view f.first.view) refl (ap (λ b. cond b (list_of 1 (group_at [])) (only m ∷ [])) other ∙ sym e) (views-back s.views f.views.1),
    )

plain_fits : (s : Stmt) → T (plain s) → Fits 1 s
plain_fits s t = keeps-fits 1 s ((says-and (says-self (field_rules 16 1 s)) (says-self (not (eqb s.kind 5)))).sound t).0

-- ---- it comes back from its words

view-back : (v : View) → FitsView v → view_of (word_of v) ≡ v
unfolding view_of
view-back v f =
    let x : word_of v % 4294967296 ≡ v.joined = omega (arith, f.joined) in
    let z : word_of v / 4294967296 ≡ v.left = omega (arith, f.joined) in
    let w : v.left % 4294967296 ≡ v.left = omega (arith, f.left) in
    let y : word_of v / 4294967296 % 4294967296 ≡ v.left = ap (λ n. n % 4294967296) z ∙ w in
    ap₂ (λ j l. record { joined = j; left = l }) x y

module _ (W : List ℕ) (st : Statement) (long : length W ≡ pool_words) (room : pool_len W < 512) (f : Fits 1 (stmt_of st [])) where
  count : length (stmt_of st []).views ≡ st.history.len
  unfolding stmt_of
  count = views-length st.history.len st.history.views

  put : (U : List ℕ) × Put W U (pool_len W) st []
  unfolding stmt_of
  put =
      let g = f.first in (
        _,
        put_is W _ _ (pool_len W) (pool_len W) st [] (head_word_of_held st) (word_of (view_is st.at)) (word_of (view_is st.view)) long (omega arith) refl refl
            refl (omega (arith, g.kind)) (omega (arith, g.origin)) (omega (arith, g.notice))
            (omega (arith, g.at.joined, g.at.left)) (view-back (view_is st.at) g.at) (omega (arith, g.view.joined, g.view.left)) (view-back (view_is st.view) g.view),
      )

  -- one statement more, where the pool does not have it
  pool-more : T (not (any (same_stmt (stmt_of st [])) (pool_of W))) → pool_of (pooled_in W (stmt_of st [])) ≡ pool_of W ++ (stmt_of st [] ∷ [])
  unfolding pool_of
  pool-more t = elim (in-pool W (stmt_of st [])) [
    | there i q b h m y ↦ absurd (subst (λ b. T (not b)) y t)
    | absent q y ↦
        (let a = append-new W st [] (pool_len W) put.0 long (ap option_of (sym q)) refl room put.1 in
        ap pool_of (sym a.is) ∙ grown-pool W _ st [] (omega (arith, f.views.0, count)) (a.new q room) room)
  ]

-- ---- the memory of a pool

-- Statement n of the pool P.
abbrev pub at : List Stmt → ℕ → Stmt
at P n = get_or P n no_stmt

zeros : List ℕ
zeros = replicate pool_words 0

-- Its statements went one after another into a memory of zeros.
pub memory : List Stmt → List ℕ
memory P = foldl pooled_in zeros P

-- The statements keep the field rules and are no reports, and each is other than those of Q and those before it.
abbrev new_after : List Stmt → List Stmt → Bool
new_after Q [] = true
new_after Q (s ∷ P) = (plain s && not (any (same_stmt s) Q)) && new_after (Q ++ (s ∷ [])) P

-- The statements keep the field rules and are no reports, no two are the same, and there is room for one more.
unfoldable pub fits : List Stmt → Bool
fits P = ltb (length P) 512 && new_after [] P

all-in-pool : (P Q : List Stmt) (W : List ℕ) → length W ≡ pool_words → pool_of W ≡ Q → length Q + length P < 512 → T (new_after Q P) → pool_of (foldl pooled_in W P) ≡ Q ++ P
all-in-pool [] Q W l e h t = e ∙ sym (append-nil Q)
all-in-pool (s ∷ P) Q W l e h t =
    let ((r, n), u) = (says-and (says-and (says-self (plain s)) (says-self (not (any (same_stmt s) Q)))) (says-self (new_after (Q ++ (s ∷ [])) P))).sound t in
    let (st, q) = struct-of s r in
    let more = subst (λ x. Fits 1 x → T (not (any (same_stmt x) (pool_of W))) → pool_of (pooled_in W x) ≡ pool_of W ++ (x ∷ [])) q (pool-more W st l (omega (arith, pool-length W, ap length e))) (plain_fits s r) in
    all-in-pool P (Q ++ (s ∷ [])) (pooled_in W s) ((pooled-beside W s).long ∙ l) (more (subst (λ X. T (not (any (same_stmt s) X))) (sym e) n) ∙ ap (λ X. X ++ (s ∷ [])) e) (omega (arith, length-append Q (s ∷ []))) u
    ∙ append_assoc Q (s ∷ []) P

no-pool : (length zeros ≡ pool_words) × (pool_of zeros ≡ [])
unfolding zeros pool_of
no-pool = (length-replicate {A = ℕ} pool_words 0, (fresh pool_words).1)

-- a statement is found where the pool has it
there-is : (W : List ℕ) (s : Stmt) → is_some (memories.pool_number W s) ≡ any (same_stmt s) (pool_of W)
unfolding pool_of
there-is W s = elim (in-pool W s) [ there i q b h m y ↦ ap is_some q ∙ sym y | absent q y ↦ ap is_some q ∙ sym y ]

module _ (P : List Stmt) (t : T (fits P)) where
  fit_parts : (length P < 512) × T (new_after [] P)
  unfolding fits
  fit_parts = (says-and (says-leb {m = suc (length P)} {n = 512}) (says-self (new_after [] P))).sound t

  pub short : length P < 512
  short = fit_parts.0

  pub pool-is : pool_of (memory P) ≡ P
  unfolding memory
  pool-is = all-in-pool P [] zeros no-pool.0 no-pool.1 (omega (arith, short)) fit_parts.1

  len_is : pool_len (memory P) ≡ length P
  len_is = sym (pool-length (memory P)) ∙ ap length pool-is

  pub stmt-at : (n : ℕ) → n < length P → stmt_at (memory P) n ≡ at P n
  unfolding pool_of
  stmt-at n l = sym (list_of-at (pool_len (memory P)) (stmt_at (memory P)) n no_stmt (omega (arith, len_is))) ∙ ap (λ Q. at Q n) pool-is

  -- the memory, word for word, after s went in
  pub memory-more : (s : Stmt) → memory (pooled s P) ≡ pooled_in (memory P) s
  unfolding memory pooled pooled_in
  memory-more s = go (any (same_stmt s) P) refl
    where
      go : (b : Bool) → any (same_stmt s) P ≡ b → memory (if b then P else P ++ (s ∷ [])) ≡ pooled_in (memory P) s
      go true e = rw (there-is (memory P) s ∙ ap (any (same_stmt s)) pool-is ∙ e)
      go false e = foldl-append pooled_in zeros P (s ∷ [])

-- statements more, after those that are there
pub grows : (P more : List Stmt) → T (fits P) → T (fits (P ++ more)) → Grows (memory P) (memory (P ++ more))
grows P more t u = record {
  more = omega (arith, len_is P t, len_is (P ++ more) u, length-append P more);
  same = λ n l.
      let h : n < length P = omega (arith, len_is P t) in
      stmt-at (P ++ more) u n (omega (arith, length-append P more)) ∙ get_or-append P more no_stmt n h ∙ sym (stmt-at P t n h);
}

-- ---- the record

-- The memory of a record of these numbers.
abbrev pub numbers : List ℕ → List ℕ
numbers l = l ++ (replicate (512 - length l) 0 ++ (length l ∷ []))

-- The numbers are of statements of the pool, and there is room for one more.
unfoldable pub within : List Stmt → List ℕ → Bool
within P l = ltb (length l) 512 && all (λ i. ltb i (length P)) l

number_at : (l : List ℕ) (i : ℕ) → i < length l → get_or (numbers l) i 0 ≡ get_or l i 0
number_at l i h = get_or-append l (replicate (512 - length l) 0 ++ (length l ∷ [])) 0 i h

module _ (l : List ℕ) (h : length l < 512) where
  zeros-long : length (l ++ replicate (512 - length l) 0) ≡ 512
  zeros-long = omega (arith, length-append l (replicate (512 - length l) 0), length-replicate {A = ℕ} (512 - length l) 0)

  all-zeros : numbers l ≡ (l ++ replicate (512 - length l) 0) ++ (length l ∷ [])
  all-zeros = sym (append_assoc l (replicate (512 - length l) 0) (length l ∷ []))

  numbers-long : length (numbers l) ≡ 513
  numbers-long = ap length all-zeros ∙ omega (arith, length-append (l ++ replicate (512 - length l) 0) (length l ∷ []), zeros-long)

  set-count : (n : ℕ) → set (numbers l) 512 n ≡ (l ++ replicate (512 - length l) 0) ++ (n ∷ [])
  set-count n = ap (λ k. set k 512 n) all-zeros ∙ ap (λ i. set ((l ++ replicate (512 - length l) 0) ++ (length l ∷ [])) i n) (sym zeros-long) ∙ set-append_seam (l ++ replicate (512 - length l) 0) (length l) [] n

  pub count-is : get_or (numbers l) 512 0 ≡ length l
  count-is = ap (λ k. get_or k 512 0) (set_same) ∙ get_or-set_same (numbers l) 512 (length l) 0 (omega (arith, numbers-long))
    where
      set_same : numbers l ≡ set (numbers l) 512 (length l)
      set_same = all-zeros ∙ sym (set-count (length l))

  pub record-len : record_len (numbers l) ≡ length l
  record-len = ap (λ k. min k 512) count-is ∙ omega arith

pub pushed : (l : List ℕ) (id : ℕ) → length l < 512 → PushedTo (numbers l) id (numbers (l ++ (id ∷ [])))
pushed l id h =
    let more = length-append l (id ∷ []) in
    let rest : 512 - length l ≡ suc (512 - length (l ++ (id ∷ []))) = omega arith in
    let one : set (numbers l) (length l) id ≡ l ++ (id ∷ (replicate (512 - length (l ++ (id ∷ []))) 0 ++ (length l ∷ [])))
    = ap (λ n. set (l ++ (replicate n 0 ++ (length l ∷ []))) (length l) id) rest ∙ set-append_seam l 0 _ id in
    subst (PushedTo (numbers l) id) (after one) (push-room-in (numbers l) id (numbers-long l h) (length l) (sym (record-len l h)) h)
  where
    after : set (numbers l) (length l) id ≡ l ++ (id ∷ (replicate (512 - length (l ++ (id ∷ []))) 0 ++ (length l ∷ []))) → set (set (numbers l) (length l) id) 512 (length l + 1) ≡ numbers (l ++ (id ∷ []))
    after one =
        let k : List ℕ = l ++ (id ∷ []) in
        let z : List ℕ = replicate (512 - length k) 0 in
        let long : length (k ++ z) ≡ 512 = omega (arith, length-append k z, length-replicate {A = ℕ} (512 - length k) 0, length-append l (id ∷ [])) in
        let n : length k ≡ length l + 1 = length-append l (id ∷ []) in
        ap (λ m. set m 512 (length l + 1)) (one ∙ sym (append_assoc l (id ∷ []) (z ++ (length l ∷ []))) ∙ sym (append_assoc k z (length l ∷ [])))
        ∙ ap (λ i. set ((k ++ z) ++ (length l ∷ [])) i (length l + 1)) (sym long) ∙ set-append_seam (k ++ z) (length l) [] (length l + 1)
        ∙ append_assoc k z ((length l + 1) ∷ []) ∙ ap (λ m. k ++ (z ++ (m ∷ []))) (sym n)

pub empty-again : (l : List ℕ) → length l ≡ 0 → Emptied (numbers l) (numbers [])
empty-again [] e = subst (Emptied (numbers [])) (set-count [] (omega arith) 0 ∙ sym (all-zeros [] (omega arith))) (emptied (numbers []) (numbers-long [] (omega arith)))
empty-again (i ∷ l) e = absurd (omega arith)

module _ (P : List Stmt) (l : List ℕ) (t : T (fits P)) (u : T (within P l)) where
  pub few : length l < 512
  unfolding within
  few = ((says-and (says-leb {m = suc (length l)} {n = 512}) (says-self (all (λ i. ltb i (length P)) l))).sound u).0

  below : (i : ℕ) → i < length l → get_or l i 0 < length P
  unfolding within
  below i h = (says-leb {m = suc (get_or l i 0)} {n = length P}).sound (all-at (λ i. ltb i (length P)) l 0 ((says-and (says-self (ltb (length l) 512)) (says-self (all (λ i. ltb i (length P)) l))).sound u).1 i h)

  pub record_is : record_in (memory P) (numbers l) ≡ map (at P) l
  unfolding record_up_to
  record_is =
      listed-all (λ i. stmt_at (memory P) (get_or (numbers l) i 0)) (map (at P) l) (at P 0) (record_len (numbers l)) (length-map l (at P) ∙ sym (record-len l few)) (λ i h.
      let k : i < length l = omega (arith, record-len l few) in
      ap (stmt_at (memory P)) (number_at l i k) ∙ stmt-at P t (get_or l i 0) (below i k) ∙ sym (get_or-map (at P) l i 0))

  pub all_in : AllIn (memory P) (numbers l)
  unfolding AllIn
  all_in i h = let k : i < length l = omega (arith, record-len l few) in omega (arith, number_at l i k, len_is P t, below i k)
