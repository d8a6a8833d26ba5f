-- What keeping a statement comes to.
-- Assumes nothing.
use Rattle.std.specs.Prelude.{Result, Ok, Err, IsErrAnd}
use mathlib.Core.Path.{◌≡◌, refl, sym, ap, ap₂, subst, ◌∙◌}
use mathlib.Core.Logic.{◌⊎◌, inl, inr}
use mathlib.Core.Bool.{Bool, true, false, not, ◌||◌}
use mathlib.Core.List.{List, [], ◌∷◌, ◌++◌}
use mathlib.Core.Option.{Option, none}
use Prim.Native.Nat.{ℕ, ◌≤◌, ◌<◌}
use native.Mathlib.Decide.{dec_lt}
use native.Mathlib.Omega.{arith}
use lib.Dec.{leb, ltb}
use lib.ListN.{length, get_or}
use borrow.Author.Tests.{le-leb, lt-leb, lt-ltb, le-ltb}
use Rattle.protocol.specs.Lists.{any}
use Rattle.protocol.specs.Statement.{Stmt, same_stmt}
use Rattle.protocol.specs.Call.{is_full}
use Rattle.protocol.specs.Pool.{number_of, pooled, has_room}
use Rattle.statements.specs.declared.Statement.{Statement}
use Rattle.statements.specs.Meaning.{stmt_of}
use Rattle.pool.specs.declared.Full.{Full}
use Rattle.pool.specs.Pool.{stmt_at, pool_len, record_up_to, record_len, record_in, pool_of, AllIn}
use Rattle.pool.specs.Changes as memory
use Rattle.protocol.proofs.Found.{if-true, if-false}
use Rattle.protocol.proofs.Numbered.{list_of-cong}
use Rattle.pool.proofs.Records.{pool-length, record-length}
use Rattle.pool.proofs.Searches.{full≢at, at-injective}
use Rattle.engine.specs.Steps.{PlacedAs, PlacedFor, KeptFor}
use Rattle.engine.proofs.Pools.{Located, there, absent, number-none, in-pool, grown-same, grown-pool}

-- ---- whether there is room

or-not : (a b : Bool) → b ≡ false → (a || not b) ≡ true
or-not true b e = refl
or-not false b e = rw e

module _ (W R : List ℕ) (s : Stmt) where
  pub is-full : (512 ≤ record_len R) ⊎ (has_room (pool_of W) s ≡ false) → is_full (has_room (pool_of W)) (record_in W R) s ≡ true
  unfolding is_full
  is-full (inl l) = rw (le-leb 512 (length (record_in W R)) (omega (arith, record-length W R)))
  is-full (inr e) = or-not (leb 512 (length (record_in W R))) (has_room (pool_of W) s) e

  pub not_full : record_len R < 512 → has_room (pool_of W) s ≡ true → is_full (has_room (pool_of W)) (record_in W R) s ≡ false
  unfolding is_full
  not_full l e = rw (lt-leb 512 (length (record_in W R)) (omega (arith, record-length W R)), e)

-- ---- the number went to the end of the record

module _ {W W' R R' : List ℕ} {s : Stmt} {n : ℕ} (k : PlacedAs W R s n W') (p : memory.PushedTo R n R') where
  pub all_in : AllIn W R → AllIn W' R'
  unfolding AllIn
  all_in w i h = elim (dec_lt i (record_len R)) [
    | yes m ↦ let e = p.first i m in let b = w i m in omega (arith, k.grows.more)
    | no m ↦
        (let q : record_len R ≡ i = omega (arith, p.len) in
        let e = p.last k.short in subst (λ j. get_or R' j 0 < pool_len W') q (omega (arith, k.within)))
  ]

  same-record : AllIn W R → record_in W' R ≡ record_in W R
  unfolding record_up_to AllIn
  same-record w = list_of-cong (record_len R) (λ i. stmt_at W' (get_or R i 0)) (λ i. stmt_at W (get_or R i 0)) (λ i h. k.grows.same _ (w i h))

  longer : record_in W' R' ≡ record_in W' R ++ (s ∷ [])
  longer = p.means W' ∙ rw (lt-ltb (record_len R) 512 k.short) (ap (λ x. record_in W' R ++ (x ∷ [])) k.is)

  pub record-more : AllIn W R → record_in W' R' ≡ record_in W R ++ (s ∷ [])
  record-more w = longer ∙ ap (λ l. l ++ (s ∷ [])) (same-record w)

-- ---- what the pool answered

pooled-old : (s : Stmt) (P : List Stmt) → any (same_stmt s) P ≡ true → P ≡ pooled s P
unfolding pooled
pooled-old s P e = rw e

pooled-new : (s : Stmt) (P : List Stmt) → any (same_stmt s) P ≡ false → P ++ (s ∷ []) ≡ pooled s P
unfolding pooled
pooled-new s P e = rw e

room-old : (s : Stmt) (P : List Stmt) → any (same_stmt s) P ≡ true → has_room P s ≡ true
unfolding has_room
room-old s P e = rw e

room-new : (s : Stmt) (P : List Stmt) (b : Bool) → any (same_stmt s) P ≡ false → ltb (length P) 512 ≡ b → has_room P s ≡ b
unfolding has_room
room-new s P b e f = rw (e, f)

-- the record is full
pub record-full : {W R : List ℕ} {s : Stmt} → 512 ≤ record_len R → PlacedFor W R s (Err memory.no_room) W
record-full l = record { full = λ e. (inl l, refl); at = λ n e. absurd (full≢at e) }

module _ (W W' R : List ℕ) (st : Statement) (B : List ℕ) (short : st.history.len ≤ 16) (l : record_len R < 512) where
  -- the statement was in the pool
  old : W' ≡ memory.pooled_in W (stmt_of st B) → (n i : ℕ) → W' ≡ W → n ≡ i → i < pool_len W → stmt_at W i ≡ stmt_of st B → number_of (stmt_of st B) (pool_of W) ≡ i → any (same_stmt (stmt_of st B)) (pool_of W) ≡ true
      → PlacedAs W R (stmt_of st B) n W'
  old x n i w e b h m y = record {
    short = l;
    room = room-old (stmt_of st B) (pool_of W) y;
    number = e ∙ sym m;
    is = ap₂ stmt_at w e ∙ h;
    pool = record { is = ap pool_of w ∙ pooled-old (stmt_of st B) (pool_of W) y; words = x };
    grows = record { more = subst (λ (U : List ℕ). pool_len W ≤ pool_len U) (sym w) (omega arith); same = λ j t. ap (λ (U : List ℕ). stmt_at U j) w };
    within = subst (λ (U : List ℕ). n < pool_len U) (sym w) (omega arith);
  }

  -- it went to the end of the pool
  new : W' ≡ memory.pooled_in W (stmt_of st B) → (n : ℕ) → memory.Grown W W' st B → n ≡ pool_len W → pool_len W < 512 → any (same_stmt (stmt_of st B)) (pool_of W) ≡ false → PlacedAs W R (stmt_of st B) n W'
  new x n g e b y = record {
    short = l;
    room = room-new (stmt_of st B) (pool_of W) true y (ap (λ m. ltb m 512) (pool-length W) ∙ lt-ltb (pool_len W) 512 b);
    number = e ∙ sym (number-none (stmt_of st B) (pool_of W) y ∙ pool-length W);
    is = ap (stmt_at W') e ∙ g.there short;
    pool = record { is = grown-pool W W' st B short g b ∙ pooled-new (stmt_of st B) (pool_of W) y; words = x };
    grows = record { more = omega (arith, g.len); same = grown-same W W' st B short g b };
    within = omega (arith, g.len);
  }

  module _ (r : Result ℕ Full) (a : memory.Appended W W' st B r) where
    answer-is : {o : Option ℕ} → memory.pool_number W (stmt_of st B) ≡ o → r ≡ memory.placed_at o (pool_len W)
    answer-is q = a.answer ∙ ap (λ o. memory.placed_at o (pool_len W)) q

    at-end : memory.pool_number W (stmt_of st B) ≡ none → pool_len W < 512 → r ≡ Ok (pool_len W)
    at-end q b = answer-is q ∙ if-true (ltb (pool_len W) 512) (Ok (pool_len W)) (Err memory.no_room) (lt-ltb (pool_len W) 512 b)

    no_end : memory.pool_number W (stmt_of st B) ≡ none → 512 ≤ pool_len W → r ≡ Err memory.no_room
    no_end q b = answer-is q ∙ if-false (ltb (pool_len W) 512) (Ok (pool_len W)) (Err memory.no_room) (le-ltb (pool_len W) 512 b)

    -- what the pool answered, for a record that has room
    pub pool-placed : PlacedFor W R (stmt_of st B) r W'
    unfolding pool_of
    pool-placed = go (in-pool W (stmt_of st B))
      where
        go : Located (stmt_of st B) (stmt_at W) (pool_len W) (memory.pool_number W (stmt_of st B)) → PlacedFor W R (stmt_of st B) r W'
        go (there i q b h m y) = record {
          full = λ e. absurd (full≢at (sym e ∙ answer-is q));
          at = λ n e. old a.is n i (a.old i q) (at-injective (sym e ∙ answer-is q)) b h m y;
        }
        go (absent q y) = elim (dec_lt (pool_len W) 512) [
          | yes b ↦ record {
            full = λ e. absurd (full≢at (sym e ∙ at-end q b));
            at = λ n e. new a.is n (a.new q b) (at-injective (sym e ∙ at-end q b)) b y;
          }
          | no b ↦ record {
            full = λ e. (inr (room-new (stmt_of st B) (pool_of W) false y (ap (λ n. ltb n 512) (pool-length W) ∙ le-ltb (pool_len W) 512 (omega arith))), a.full (omega arith));
            at = λ n e. absurd (full≢at (sym (no_end q (omega arith)) ∙ e));
          }
        ]

-- ---- and its number went to the end of the record

-- what a `?` answers for an error
pub err-is : {A E : Type 0} (r : Result A E) (e : E) → IsErrAnd r (λ x. x ≡ e) → r ≡ Err e
err-is (Ok a) e h = absurd h
err-is (Err x) e h = ap Err h

pub kept-none : {W R : List ℕ} {s : Stmt} {x r : Result ℕ Full} {W' : List ℕ} → PlacedFor W R s x W' → x ≡ Err memory.no_room → r ≡ Err memory.no_room → KeptFor W R s r W' R
kept-none {W} {R} {s} p e f = record { full = λ _. (is-full W R s (p.full e).0, (p.full e).1, refl); at = λ n q. absurd (full≢at (sym f ∙ q)) }

pub kept_at : {W R : List ℕ} {s : Stmt} {x : Result ℕ Full} {W' : List ℕ} {n : ℕ} {R' : List ℕ} → PlacedFor W R s x W' → x ≡ Ok n → memory.PushedTo R n R' → KeptFor W R s (Ok n) W' R'
kept_at {W} {R} {s} {x} {W'} {n} {R'} p e q = record {
  full = λ z. absurd (full≢at (sym z));
  at = λ m z. subst (λ i. PlacedAs W R s i W' × memory.PushedTo R i R') (at-injective z) (p.at n e, q);
}
