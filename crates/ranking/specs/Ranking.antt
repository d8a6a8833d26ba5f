-- What the candidates in order and the greatest sealed history are of.
-- Assumes nothing.
use Rattle.std.specs.Prelude.{◌≡◌, ◌⊎◌, Bool, true, false, not, ◌||◌, List, [], ◌∷◌, ℕ, ◌+◌, ◌<◌, ltb, length, get_or}
use Rattle.protocol.specs.Sets.{bit}
use Rattle.protocol.specs.Lists.{◌∈◌, any, pairwise}
use Rattle.protocol.specs.View.{View, Ring, comparable}
use Rattle.protocol.specs.History.{holds, Holds}
use Rattle.protocol.specs.Statement.{Stmt}
use Rattle.protocol.specs.Evidence.{Candidate, candidates, Sealed, sealed_histories, passes_over, is_skipped}
use Rattle.protocol.proofs.Bits.{Fits}
use Rattle.views.specs.View.{view_of, ring_of_word, views_of}
use Rattle.pool.specs.Pool.{stmt_at}
use Rattle.tables.specs.Index.{key_at}
use Rattle.sealing.specs.declared.verdict.Verdict.{Verdict}
use Rattle.ranking.specs.Slots.{history_scale, start_scale, number_in, choice_mark, Chain}
use Rattle.ranking.specs.declared.Ranked.{Ranked}
use Rattle.ranking.specs.declared.Summit.{Summit}

-- None of n agreements is marked.
pub record Unmarked (M : ℕ → Bool) (n : ℕ) : Type 0 where
  pub none : (a : ℕ) → a < n → M a ≡ true → ⊥

-- r is the first of n agreements that is marked.
pub record FirstMarked (M : ℕ → Bool) (n r : ℕ) : Type 0 where
  pub most : r < n
  pub none : (a : ℕ) → a < r → M a ≡ true → ⊥
  pub is : M r ≡ true

-- The histories in the slots are a chain that ends with that of statement `last`; or they are none. Where it is steady, each starts with the one before.
pub record ChainOf (W S : List ℕ) (steady : Bool) (last : ℕ) : Type 0 where
  pub chain : (some : Bool) × Chain (history_scale W) S 17 some last
  pub starts : steady ≡ true → (some : Bool) × Chain (start_scale W) S 17 some last

-- r is the set `seen`, and the places too, among the first n words of a list, of the views that the history H passes over.
pub record PassedToo (R : Ring) (H : List View) (list : List ℕ) (n seen r : ℕ) : Type 0 where
  pub bits : (i : ℕ) → i < n → bit r i ≡ (bit seen i || passes_over R (view_of (get_or list i 0)) H)

-- r is the set of the places, among the first n words of a list, of the views that one of the histories passes over.
pub record PassedOf (R : Ring) (histories : List (List View)) (list : List ℕ) (n r : ℕ) : Type 0 where
  pub bits : (i : ℕ) → i < n → bit r i ≡ any (passes_over R (view_of (get_or list i 0))) histories

-- The same, but for a steady chain, which passes over nothing.
pub record SkippedOf (R : Ring) (histories : List (List View)) (list : List ℕ) (n : ℕ) (steady : Bool) (r : ℕ) : Type 0 where
  pub none : steady ≡ true → r ≡ 0
  pub some : steady ≡ false → PassedOf R histories list n r

-- The views that statements of X are for are of the sixteen controllers. (Those of a record in the pool are.)
abbrev pub AllFit : List Stmt → Type 0
AllFit X = (s : Stmt) → s ∈ X → Fits 16 s.view

module _ (init : ℕ) (X : List Stmt) where
  -- The candidates are the initial view and the views of the choices before n that are marked. What statements are for fits, so that two candidates of one size are apart.
  pub record MarkedChoices (K : List ℕ) (M : List Verdict) (n : ℕ) : Type 0 where
    pub sound : (c : ℕ) → c < n → choice_mark M c ≡ true → Candidate (ring_of_word init) X (view_of (key_at K 0 c))
    pub complete : (v : View) → Candidate (ring_of_word init) X v → (v ≡ view_of init) ⊎ ((c : ℕ) × (c < n) × (choice_mark M c ≡ true) × (view_of (key_at K 0 c) ≡ v))
    pub fits : AllFit X

  -- What is said of the candidates, which C lists, is right.
  pub record CandidatesOf (C : List ℕ) (r : Ranked) : Type 0 where
    pub conflict : r.conflict ≡ not (pairwise (comparable 16) (candidates (ring_of_word init) X))
    pub many : r.conflict ≡ false → r.many ≡ ltb 16 (length (candidates (ring_of_word init) X))
    pub views : r.conflict ≡ false → r.many ≡ false → views_of C r.count ≡ candidates (ring_of_word init) X

  -- The sealed histories are that of the initial view and those of the agreements before n that are marked.
  pub record MarkedAgreements (W R : List ℕ) (M : ℕ → Bool) (n : ℕ) : Type 0 where
    pub sound : (a : ℕ) → a < n → M a ≡ true → Sealed (ring_of_word init) X (stmt_at W (number_in R a)).views
    pub complete : (H : List View) → Sealed (ring_of_word init) X H → (H ≡ view_of init ∷ []) ⊎ ((a : ℕ) × (a < n) × (M a ≡ true) × ((stmt_at W (number_in R a)).views ≡ H))

  -- The same of verdicts that are bytes, of which a 1 at place 512 + a marks agreement a.
  pub record MarkedBytes (W R M : List ℕ) (n : ℕ) : Type 0 where
    pub sound : (a : ℕ) → a < n → get_or M (512 + a) 0 ≡ 1 → Sealed (ring_of_word init) X (stmt_at W (number_in R a)).views
    pub complete : (H : List View) → Sealed (ring_of_word init) X H → (H ≡ view_of init ∷ []) ⊎ ((a : ℕ) × (a < n) × (get_or M (512 + a) 0 ≡ 1) × ((stmt_at W (number_in R a)).views ≡ H))

  -- What is said of the sealed histories, of which G is the greatest, is right: which of its views are skipped, by their places.
  pub record HistoriesOf (G : List ℕ) (r : Summit) : Type 0 where
    pub conflict : r.conflict ≡ not (pairwise (λ H K. holds H K || holds K H) (sealed_histories (ring_of_word init) X))
    pub sealed : r.conflict ≡ false → Sealed (ring_of_word init) X (views_of G r.length)
    pub holds : r.conflict ≡ false → (K : List View) → Sealed (ring_of_word init) X K → Holds (views_of G r.length) K
    pub skipped : r.conflict ≡ false → (i : ℕ) → i < r.length → bit r.skipped i ≡ is_skipped (ring_of_word init) X (view_of (get_or G i 0))
