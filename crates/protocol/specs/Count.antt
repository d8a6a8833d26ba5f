-- Counting a quorum, and stopping where it is reached (document 02, A3). proofs/Count.antt shows that it says what Evidence.antt says.
-- Assumes nothing.
use Rattle.std.specs.Prelude.{◌≡◌, Bool, true, false, not, ◌&&◌, ◌||◌, List, [], ◌∷◌, ℕ, suc, ◌≤◌, ◌<◌, T, eqb, length, take, if◌then◌else◌}
use Rattle.protocol.specs.Lists.{when, least, otherwise}
use Rattle.protocol.specs.View.{View, Ring, member, has_members}
use Rattle.protocol.specs.Statement.{Stmt, acks}
use Rattle.protocol.specs.Evidence.{has_quorum, signed_by_quorum, at_sealed_top}

-- "Beside yes or no it gives how many statements it read".
pub record Count : Type 0 where
  pub reached : Bool
  pub read : ℕ

-- The same, with one statement more read before.
abbrev pub one_more : Count → Count
one_more a = record { reached = a.reached; read = suc a.read }

-- These, and the signer of s if s has p.
unfoldable pub with_signer : (Stmt → Bool) → Stmt → (ℕ → Bool) → ℕ → Bool
with_signer p s who k = who k || eqb s.origin k && p s

-- For the view t and a test on statements.
module _ (width : ℕ) (t : View) (p : Stmt → Bool) where
  -- The count over the rest of a record, when those in who have signed: "Let the count end with the signer who completes it."
  unfoldable pub count_quorum_from : (ℕ → Bool) → List Stmt → Count
  count_quorum_from who [] = record { reached = has_quorum width t who; read = 0 }
  count_quorum_from who (s ∷ X) = if has_quorum width t who then record { reached = true; read = 0 } else one_more (count_quorum_from (with_signer p s who) X)

  -- The count over a record.
  unfoldable pub count_quorum : List Stmt → Count
  count_quorum X = count_quorum_from (λ k. false) X

  -- What is proved of it: it says yes just where a quorum signed, and it read "all without a quorum, else exactly those up to the completing one".
  pub record CountStops (X : List Stmt) : Type 0 where
    pub says : (count_quorum X).reached ≡ signed_by_quorum width X t p
    pub all : T (not (count_quorum X).reached) → (count_quorum X).read ≡ length X
    pub within : (count_quorum X).read ≤ length X
    pub up_to : T (count_quorum X).reached → T (signed_by_quorum width (take (count_quorum X).read X) t p)
    pub before : (n : ℕ) → n < (count_quorum X).read → T (not (signed_by_quorum width (take n X) t p))

-- Only members count, and each once: `has_quorum` has that. So what others sign changes neither verdict nor number, and "a view without members" never has a quorum.
pub record CountsMembers (width : ℕ) (t : View) (p : Stmt → Bool) (X : List Stmt) : Type 0 where
  pub others : count_quorum width t p X ≡ count_quorum width t (λ s. member t s.origin && p s) X
  pub empty : T (not (has_members width t)) → T (not (count_quorum width t p X).reached)

-- After how many statements a certificate for m of notice i was complete: of that many, from the start of X, a quorum of a sealed top signed ack for m, and of no fewer.
unfoldable pub complete_after : Ring → List Stmt → ℕ → ℕ → ℕ
complete_after R X i m =
    otherwise (least (suc (length X)) (λ n. when (at_sealed_top R X (λ t. signed_by_quorum R.width (take n X) t (acks t i m))) n)) 0
