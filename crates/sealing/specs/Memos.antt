-- What the cycle of candidates and sealed histories goes over, and what it remembers.
-- Assumes nothing.
use Rattle.std.specs.Prelude.{◌≡◌, Bool, Some, List, ℕ, ◌+◌, ◌-◌, ◌≤◌, ◌<◌, ltb, get_or, if◌then◌else◌}
use Rattle.protocol.specs.Statement.{Stmt}
use Rattle.protocol.specs.Evidence.{is_candidate}
use Rattle.views.specs.View.{view_of, ring_of_word}
use Rattle.tables.specs.Index.{key_at}
use Rattle.votes.specs.Tables.{seals_at, Tables}
use Rattle.sealing.specs.declared.verdict.Verdict.{Verdict}
use Rattle.sealing.specs.declared.verdict.Verdict.TheVariants.{Unknown}
use Rattle.sealing.specs.Verdict.{known, is_yes}

-- Each place from `from` to before n remembers something.
pub record RememberedFrom (from n : ℕ) (M : List Verdict) : Type 0 where
  pub has : (k : ℕ) → from ≤ k → k < n → get_or M k Unknown ≡ Unknown → ⊥

-- Nothing is remembered.
pub record Blank (M : List Verdict) : Type 0 where
  pub none : (k : ℕ) → get_or M k Unknown ≡ Unknown

module _ (W : List ℕ) (X : List Stmt) (init : ℕ) (K R : List ℕ) where
  -- The tables are right, with some numbers of rows: no number of rows travels with them.
  pub record Tabled : Type 0 where
    pub choices : ℕ
    pub agreements : ℕ
    pub tables : Tables W X init K R choices agreements

  -- The same, and a is an agreement.
  pub record Among (a : ℕ) : Type 0 where
    pub choices : ℕ
    pub agreements : ℕ
    pub tables : Tables W X init K R choices agreements
    pub among : a < agreements

  -- All verdicts, in one memory: place c has a yes just where the view of choice c is a candidate, place 512 + a just where agreement a seals its history.
  pub record Verdicts (choice_count agreement_count : ℕ) (M : List Verdict) : Type 0 where
    pub candidate : (c : ℕ) → c < choice_count → is_yes (get_or M c Unknown) ≡ is_candidate (ring_of_word init) X (view_of (key_at K 0 c))
    pub sealed : (a : ℕ) → a < agreement_count → is_yes (get_or M (512 + a) Unknown) ≡ seals_at W X init K R a

  -- The same, and M has all verdicts.
  pub record VerdictsHeld (M : List Verdict) : Type 0 where
    pub choices : ℕ
    pub agreements : ℕ
    pub tables : Tables W X init K R choices agreements
    pub verdicts : Verdicts choices agreements M

  -- What place k of the memory is about: below 512 a choice, from there on an agreement.
  unfoldable pub asked : ℕ → Bool
  asked k = if ltb k 512 then is_candidate (ring_of_word init) X (view_of (key_at K 0 k)) else seals_at W X init K R (k - 512)

  -- What is remembered is right.
  pub record Memos (M : List Verdict) : Type 0 where
    pub right : (k : ℕ) (b : Bool) → known (get_or M k Unknown) ≡ Some b → b ≡ asked k

  -- What M' remembers is right, and it forgot nothing that M remembers.
  pub record Later (M M' : List Verdict) : Type 0 where
    pub memos : Memos M'
    pub kept : (k : ℕ) → get_or M' k Unknown ≡ Unknown → get_or M k Unknown ≡ Unknown
