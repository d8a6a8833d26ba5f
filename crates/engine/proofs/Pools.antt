-- The pool in memory and the protocol's pool: where a statement is, and what one more does to it and to the records over it.
-- Assumes nothing.
use Rattle.std.specs.Prelude.{if◌then◌else◌}
use mathlib.Core.Path.{◌≡◌, refl, sym, ap, ap₂, subst, ◌∙◌}
use mathlib.Core.Bool.{Bool, true, false, ◌||◌}
use mathlib.Core.List.{List, [], ◌∷◌, ◌++◌}
use mathlib.Core.Option.{Option, some, none}
use Prim.Native.Nat.{ℕ, zero, suc, ◌≤◌, ◌<◌}
use native.Mathlib.Numerals.{add-one}
use native.Mathlib.Omega.{arith}
use lib.Dec.{T}
use lib.ListN.{length}
use Rattle.protocol.specs.Lists.{any, find, list_of}
use Rattle.protocol.specs.Statement.{Stmt, same_stmt}
use Rattle.protocol.specs.Pool.{number_of}
use Rattle.protocol.proofs.Asked.{says-same-stmt}
use Rattle.protocol.proofs.Found.{none≢some}
use Rattle.protocol.proofs.Numbered.{list_of-length, list_of-cong}
use Rattle.views.proofs.Tables.{any_append}
use Rattle.statements.specs.declared.Statement.{Statement}
use Rattle.statements.specs.Meaning.{stmt_of}
use Rattle.pool.specs.Pool.{stmt_at, pool_len, pool_of}
use Rattle.pool.specs.Changes as memory

-- ---- lists: where the first s stands

module _ (s : Stmt) where
  number_in : (P : List Stmt) (Q : List Stmt) → any (same_stmt s) P ≡ true → number_of s (P ++ Q) ≡ number_of s P
  unfolding any number_of
  number_in [] Q e = absurd (subst T (sym e) tt)
  number_in (x ∷ P) Q e = go (same_stmt s x) (number_in P Q) e
    where
      go : (b : Bool) → (any (same_stmt s) P ≡ true → number_of s (P ++ Q) ≡ number_of s P) → (b || any (same_stmt s) P) ≡ true
          → (if b then 0 else suc (number_of s (P ++ Q))) ≡ (if b then 0 else suc (number_of s P))
      go true ih e = refl
      go false ih e = ap suc (ih e)

  number-after : (P : List Stmt) (x : Stmt) → any (same_stmt s) P ≡ false → same_stmt s x ≡ true → number_of s (P ++ (x ∷ [])) ≡ length P
  unfolding any number_of
  number-after [] x e f = rw f
  number-after (y ∷ P) x e f = go (same_stmt s y) (λ e. number-after P x e f) e
    where
      go : (b : Bool) → (any (same_stmt s) P ≡ false → number_of s (P ++ (x ∷ [])) ≡ length P) → (b || any (same_stmt s) P) ≡ false
          → (if b then 0 else suc (number_of s (P ++ (x ∷ [])))) ≡ suc (length P)
      go true ih e = absurd (subst T e tt)
      go false ih e = ap suc (ih e)

  pub number-none : (P : List Stmt) → any (same_stmt s) P ≡ false → number_of s P ≡ length P
  unfolding any number_of
  number-none [] e = refl
  number-none (x ∷ P) e = go (same_stmt s x) (number-none P) e
    where
      go : (b : Bool) → (any (same_stmt s) P ≡ false → number_of s P ≡ length P) → (b || any (same_stmt s) P) ≡ false → (if b then 0 else suc (number_of s P)) ≡ suc (length P)
      go true ih e = absurd (subst T e tt)
      go false ih e = ap suc (ih e)

find-in : (p : ℕ → Bool) (k l : List ℕ) {i : ℕ} → find p k ≡ some i → find p (k ++ l) ≡ some i
unfolding find
find-in p [] l e = absurd (none≢some e)
find-in p (a ∷ k) l {i} e = go (p a) (find-in p k l) e
  where
    go : (b : Bool) → (find p k ≡ some i → find p (k ++ l) ≡ some i) → (if b then some a else find p k) ≡ some i → (if b then some a else find p (k ++ l)) ≡ some i
    go true ih e = e
    go false ih e = ih e

find-on : (p : ℕ → Bool) (k l : List ℕ) → find p k ≡ none → find p (k ++ l) ≡ find p l
unfolding find
find-on p [] l e = refl
find-on p (a ∷ k) l e = go (p a) (find-on p k l) e
  where
    go : (b : Bool) → (find p k ≡ none → find p (k ++ l) ≡ find p l) → (if b then some a else find p k) ≡ none → (if b then some a else find p (k ++ l)) ≡ find p l
    go true ih e = absurd (none≢some (sym e))
    go false ih e = ih e

-- what a search by number finds in f 0, .., f (n - 1)
pub data Located (s : Stmt) (f : ℕ → Stmt) (n : ℕ) (o : Option ℕ) : Type 0 where
  there : (i : ℕ) → o ≡ some i → i < n → f i ≡ s → number_of s (list_of n f) ≡ i → any (same_stmt s) (list_of n f) ≡ true → Located s f n o
  absent : o ≡ none → any (same_stmt s) (list_of n f) ≡ false → Located s f n o

any-one : (s x : Stmt) → any (same_stmt s) (x ∷ []) ≡ same_stmt s x
unfolding any
any-one s x = go (same_stmt s x)
  where
    go : (b : Bool) → (b || false) ≡ b
    go true = refl
    go false = refl

located : (s : Stmt) (f : ℕ → Stmt) (n : ℕ) → Located s f n (find (λ i. same_stmt s (f i)) (list_of n (λ i. i)))
unfolding list_of any find
located s f zero = absent refl refl
located s f (suc n) = go (located s f n)
  where
    p : ℕ → Bool
    p i = same_stmt s (f i)

    last : (b : Bool) → same_stmt s (f n) ≡ b → any (same_stmt s) (list_of n f) ≡ false → Located s f (suc n) (if b then some n else none)
    last true e a =
        there n refl (omega arith) (sym (says-same-stmt.sound (subst T (sym e) tt))) (number-after s (list_of n f) (f n) a e ∙ list_of-length n f)
        (any_append (same_stmt s) (list_of n f) (f n ∷ []) ∙ ap₂ ◌||◌ a (any-one s (f n) ∙ e))
    last false e a = absent refl (any_append (same_stmt s) (list_of n f) (f n ∷ []) ∙ ap₂ ◌||◌ a (any-one s (f n) ∙ e))

    go : Located s f n (find p (list_of n (λ i. i))) → Located s f (suc n) (find p (list_of n (λ i. i) ++ (n ∷ [])))
    go (there i e l h m a) =
        there i (find-in p (list_of n (λ i. i)) (n ∷ []) e) (omega arith) h (number_in s (list_of n f) (f n ∷ []) a ∙ m)
        (any_append (same_stmt s) (list_of n f) (f n ∷ []) ∙ ap (λ b. b || any (same_stmt s) (f n ∷ [])) a)
    go (absent e a) = subst (Located s f (suc n)) (sym (find-on p (list_of n (λ i. i)) (n ∷ []) e)) (last (same_stmt s (f n)) refl a)

-- ---- the pool in memory

pub in-pool : (W : List ℕ) (s : Stmt) → Located s (stmt_at W) (pool_len W) (memory.pool_number W s)
unfolding memory.pool_number
in-pool W s = located s (stmt_at W) (pool_len W)

-- one statement more

module _ (W W' : List ℕ) (st : Statement) (B : List ℕ) (short : st.history.len ≤ 16) (g : memory.Grown W W' st B) (room : pool_len W < 512) where
  pub grown-same : (m : ℕ) → m < pool_len W → stmt_at W' m ≡ stmt_at W m
  grown-same m l = g.others m (λ e. omega arith)

  pub grown-pool : pool_of W' ≡ pool_of W ++ (stmt_of st B ∷ [])
  unfolding pool_of list_of
  grown-pool = ap (λ n. list_of n (stmt_at W')) (g.len ∙ add-one (pool_len W))
      ∙ ap₂ (λ l x. l ++ (x ∷ [])) (list_of-cong (pool_len W) (stmt_at W') (stmt_at W) grown-same) (g.there short)
