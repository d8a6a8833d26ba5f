-- What a record shows, written for a service screen. A text is the list of its bytes' numbers.
-- Assumes nothing.
use Rattle.std.specs.Prelude.{ℕ, zero, suc, ◌≤◌, ◌<◌, ◌≡◌, Bool, List, [], ◌∷◌, ◌++◌, map, eqb, ltb, length, if◌then◌else◌}
use Rattle.std.proofs.Math.Option.{Option, some, none}
use Rattle.std.proofs.lemmas.List.Edits.{sets}
use Rattle.protocol.specs.Lists.{first}
use Rattle.protocol.specs.View.{View, Ring}
use Rattle.protocol.specs.Statement.{Stmt}
use Rattle.protocol.specs.Evidence.{wished, candidates, greatest, certificates, is_conflict, is_stored}
use Rattle.protocol.specs.Count.{complete_after}
use Rattle.text.specs.Text.{dec_text}
use Rattle.statements.specs.Text.{parted, view_text}

-- ---- the words, in ASCII
abbrev pub wished_word : List ℕ
wished_word = 119 ∷ 105 ∷ 115 ∷ 104 ∷ 101 ∷ 100 ∷ []

abbrev pub conflict_word : List ℕ
conflict_word = 99 ∷ 111 ∷ 110 ∷ 102 ∷ 108 ∷ 105 ∷ 99 ∷ 116 ∷ []

abbrev pub candidates_word : List ℕ
candidates_word = 99 ∷ 97 ∷ 110 ∷ 100 ∷ 105 ∷ 100 ∷ 97 ∷ 116 ∷ 101 ∷ 115 ∷ []

abbrev pub many_word : List ℕ
many_word = 109 ∷ 97 ∷ 110 ∷ 121 ∷ []

abbrev pub greatest_word : List ℕ
greatest_word = 103 ∷ 114 ∷ 101 ∷ 97 ∷ 116 ∷ 101 ∷ 115 ∷ 116 ∷ []

abbrev pub certificate_word : List ℕ
certificate_word = 99 ∷ 101 ∷ 114 ∷ 116 ∷ 105 ∷ 102 ∷ 105 ∷ 99 ∷ 97 ∷ 116 ∷ 101 ∷ []

abbrev pub none_word : List ℕ
none_word = 110 ∷ 111 ∷ 110 ∷ 101 ∷ []

abbrev pub stored_word : List ℕ
stored_word = 115 ∷ 116 ∷ 111 ∷ 114 ∷ 101 ∷ 100 ∷ []

abbrev pub kept_word : List ℕ
kept_word = 107 ∷ 101 ∷ 112 ∷ 116 ∷ []

-- ---- the lines

-- A line: its fields parted by commas, and a newline.
unfoldable pub line_text : List (List ℕ) → List ℕ
line_text fields = parted fields ++ (10 ∷ [])

-- A name, how many views there are, and the views.
unfoldable pub views_line : List ℕ → List View → List ℕ
views_line name views = line_text (name ∷ dec_text (length views) ∷ map view_text views)

-- The wished view.
unfoldable pub wished_line : View → List ℕ
wished_line v = line_text (wished_word ∷ view_text v ∷ [])

-- That there is a conflict.
unfoldable pub conflict_line : List ℕ
conflict_line = line_text (conflict_word ∷ [])

-- More than sixteen candidates are not told.
unfoldable pub candidates_line : Bool → List View → List ℕ
candidates_line many views = if many then line_text (candidates_word ∷ many_word ∷ []) else views_line candidates_word views

-- The payload m for which notice i has a certificate, whether it is stored or only kept, and after how many statements the certificate was complete. In a ring of one notice its
-- number is not told.
unfoldable pub certificate_line : Bool → ℕ → ℕ → Bool → ℕ → List ℕ
certificate_line one i m stored after =
    if one then line_text (certificate_word ∷ dec_text m ∷ (if stored then stored_word else kept_word) ∷ dec_text after ∷ [])
    else line_text (certificate_word ∷ dec_text i ∷ dec_text m ∷ (if stored then stored_word else kept_word) ∷ dec_text after ∷ [])

-- No notice has a certificate.
unfoldable pub uncertified_line : List ℕ
uncertified_line = line_text (certificate_word ∷ none_word ∷ [])

-- By the payloads of the certificates, whether a payload of a notice is stored, and after how many statements its certificate was complete.
module _ (one : Bool) (certificate : ℕ → Option ℕ) (stored : ℕ → ℕ → Bool) (after : ℕ → ℕ → ℕ) where
  -- The line of notice i, if it has a certificate.
  unfoldable pub line_for : ℕ → Option ℕ → List ℕ
  line_for i none = []
  line_for i (some m) = certificate_line one i m (stored i m) (after i m)

  -- Those of the notices below n, in order.
  unfoldable pub lines_below : ℕ → List ℕ
  lines_below zero = []
  lines_below (suc n) = lines_below n ++ line_for n (certificate n)

-- The lines, or that there is none.
unfoldable pub or_none : List ℕ → List ℕ
or_none [] = uncertified_line
or_none (b ∷ t) = b ∷ t

-- What is told of the certificates of n notices.
unfoldable pub certificates_text : ℕ → (ℕ → Option ℕ) → (ℕ → ℕ → Bool) → (ℕ → ℕ → ℕ) → List ℕ
certificates_text n certificate stored after = or_none (lines_below (eqb n 1) certificate stored after n)

-- ---- the whole

-- Where there is no conflict: the candidates, the greatest history and the certificates.
unfoldable pub agreed_text : Ring → List ℕ → List Stmt → List ℕ
agreed_text R senders X =
    candidates_line (ltb 16 (length (candidates R X))) (candidates R X)
    ++ (views_line greatest_word (greatest R X) ++ certificates_text (length senders) (λ i. first (certificates R senders X i)) (is_stored R X) (complete_after R X))

-- What X shows in the ring R with these senders. After a conflict nothing but the wished view is told.
unfoldable pub screen_text : Ring → List ℕ → List Stmt → List ℕ
screen_text R senders X = wished_line (wished R X) ++ (if is_conflict R senders X then conflict_line else agreed_text R senders X)

-- n was answered for the memory out, which holds `after` then: its text stands from the start if there are 4096 bytes, which are enough, and what is behind it is
-- as before; otherwise n is 0 and all is as before.
pub record ScreenShows (R : Ring) (senders : List ℕ) (X : List Stmt) (out : List ℕ) (n : ℕ) (after : List ℕ) : Type 0 where
  pub count : 4096 ≤ length out → n ≡ length (screen_text R senders X)
  pub fits : 4096 ≤ length out → length (screen_text R senders X) ≤ 4096
  pub is : 4096 ≤ length out → after ≡ sets out 0 (screen_text R senders X)
  pub short : length out < 4096 → (n ≡ 0) × (after ≡ out)
