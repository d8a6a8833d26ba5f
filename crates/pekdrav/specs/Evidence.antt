-- What is told of a record: a hundred and four words, each fixed by what the record shows.
-- Assumes nothing.
use Rattle.std.specs.Prelude.{ℕ, Bool, cond, List, [], ◌∷◌, ◌++◌, map, ltb, length, get_or, replicate, if◌then◌else◌}
use Rattle.std.proofs.Math.Option.{Option}
use Rattle.protocol.specs.Sets.{bit, set_of}
use Rattle.protocol.specs.Lists.{first, when, given, is_some, otherwise, list_of}
use Rattle.protocol.specs.View.{View, Ring}
use Rattle.protocol.specs.Statement.{Stmt}
use Rattle.protocol.specs.Evidence.{wished, candidates, greatest, certificates, is_conflict, is_stored}
use Rattle.views.specs.View.{word_of}

-- 1 for yes, 0 for no.
abbrev pub flag : Bool → ℕ
flag b = cond b 1 0

-- Sixteen words: those of the views, and 0 after the last.
unfoldable pub sixteen : List View → List ℕ
sixteen l = list_of 16 (λ i. get_or (map word_of l) i 0)

-- More than sixteen candidates are not told.
unfoldable pub few : List View → List View
few l = if ltb 16 (length l) then [] else l

-- The payload of notice i's certificate, if it has one.
abbrev pub certificate_for : Ring → List ℕ → List Stmt → ℕ → Option ℕ
certificate_for R senders X i = first (certificates R senders X i)

-- It has one, and the payload is stored.
unfoldable pub stored_for : Ring → List ℕ → List Stmt → ℕ → Bool
stored_for R senders X i = is_some (given (certificate_for R senders X i) (λ m. when (is_stored R X i m) m))

-- A word for each of 64 notices: the payload of its certificate, or 0.
unfoldable pub payload_words : Ring → List ℕ → List Stmt → List ℕ
payload_words R senders X = list_of 64 (λ i. if ltb i (length senders) then otherwise (certificate_for R senders X i) 0 else 0)

-- The same from a set of notices and words of payloads: what the function that writes them is told.
unfoldable pub payloads_in : ℕ → List ℕ → List ℕ
payloads_in certified P = list_of 64 (λ i. if bit certified i then get_or P i 0 else 0)

-- After a conflict nothing but the wished view is told.
unfoldable pub conflict_words : Ring → List Stmt → List ℕ
conflict_words R X = 1 ∷ 0 ∷ word_of (wished R X) ∷ replicate 101 0

-- Where there is none: whether there are more than sixteen candidates, the wished view, how many candidates and how many views of the greatest history follow, the set of
-- the notices that have a certificate and of those whose payload is stored, a word that is 0; the candidates, the greatest history, the payloads of the certificates.
unfoldable pub agreed_words : Ring → List ℕ → List Stmt → List ℕ
agreed_words R senders X =
    0 ∷ flag (ltb 16 (length (candidates R X))) ∷ word_of (wished R X) ∷ length (few (candidates R X)) ∷ length (greatest R X)
    ∷ set_of (length senders) (λ i. is_some (certificate_for R senders X i)) ∷ set_of (length senders) (stored_for R senders X) ∷ 0
    ∷ (sixteen (few (candidates R X)) ++ (sixteen (greatest R X) ++ payload_words R senders X))

-- What is told of X in the ring R with the notices of these senders.
unfoldable pub told_of : Ring → List ℕ → List Stmt → List ℕ
told_of R senders X = if is_conflict R senders X then conflict_words R X else agreed_words R senders X
