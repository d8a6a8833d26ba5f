-- What quorums agreed to, in two tables: choices of views, table 0, and agreements to histories, table 1. The cycle of candidates and sealed histories goes over them.
-- The key of a choice is the word of its view, that of an agreement the word of its history's top; the number of a row is that of a statement in the pool that says it.
-- Assumes nothing.
use Rattle.std.specs.Prelude.{◌≡◌, Bool, ◌&&◌, ◌||◌, List, [], ◌∷◌, ℕ, ◌≤◌, ◌<◌, eqb}
use Rattle.protocol.specs.Lists.{◌∈◌, any, all, list_of}
use Rattle.protocol.specs.View.{View, size}
use Rattle.protocol.specs.History.{same_views}
use Rattle.protocol.specs.Statement.{Stmt}
use Rattle.protocol.specs.Evidence.{is_candidate, is_sealed}
use Rattle.protocol.specs.Grounds.{is_top}
use Rattle.views.specs.View.{view_of, view_in, ring_of_word}
use Rattle.pool.specs.Pool.{stmt_at}
use Rattle.tables.specs.Index.{key_at, number_at, Indexed}

-- The numbers below n.
abbrev pub up_to : ℕ → List ℕ
up_to n = list_of n (λ i. i)

-- The word of a view is less than this.
abbrev pub IsWord : ℕ → Type 0
IsWord v = v < 18446744073709551616

-- The statements of choice c and of agreement a.

abbrev pub choice_at : List ℕ → List ℕ → ℕ → Stmt
choice_at W R c = stmt_at W (number_at R 0 c)

abbrev pub agreement_at : List ℕ → List ℕ → ℕ → Stmt
agreement_at W R a = stmt_at W (number_at R 1 a)

module _ (W : List ℕ) (X : List Stmt) (init : ℕ) (K R : List ℕ) where
  -- Choice c makes v a candidate.
  unfoldable pub gives : ℕ → ℕ → Bool
  gives v c = eqb (key_at K 0 c) v && is_top (ring_of_word init) X (choice_at W R c).at

  -- Agreement a seals its history.
  unfoldable pub seals_at : ℕ → Bool
  seals_at a = is_top (ring_of_word init) X (agreement_at W R a).at && all (is_candidate (ring_of_word init) X) (agreement_at W R a).views

  -- Agreement a seals a history with the top t; it seals H.

  unfoldable pub ends : ℕ → ℕ → Bool
  ends t a = eqb (key_at K 1 a) t && seals_at a

  unfoldable pub seals_as : List View → ℕ → Bool
  seals_as H a = same_views (agreement_at W R a).views H && seals_at a

  -- The tables are right, and rise.
  pub record Tables (choice_count agreement_count : ℕ) : Type 0 where
    pub chosen : Indexed K R 0 choice_count
    pub agreed : Indexed K R 1 agreement_count
    pub candidates : (v : ℕ) → IsWord v → is_candidate (ring_of_word init) X (view_of v) ≡ (eqb v init || any (gives v) (up_to choice_count))
    pub tops : (t : ℕ) → IsWord t → is_top (ring_of_word init) X (view_of t) ≡ (eqb t init || any (ends t) (up_to agreement_count))
    pub histories : (H : List View) → is_sealed (ring_of_word init) X H ≡ (same_views H (view_of init ∷ []) || any (seals_as H) (up_to agreement_count))
    pub narrow : (c : ℕ) → c < choice_count → view_in (key_at K 0 c) ≡ view_of (key_at K 0 c)
    pub rises : (c : ℕ) → c < choice_count → size 16 (choice_at W R c).at < size 16 (view_of (key_at K 0 c))
    pub climbs : (a : ℕ) → a < agreement_count → size 16 (agreement_at W R a).at < size 16 (view_of (key_at K 1 a))
    pub within : (a : ℕ) → a < agreement_count → (v : View) → v ∈ (agreement_at W R a).views → size 16 v ≤ size 16 (view_of (key_at K 1 a))
