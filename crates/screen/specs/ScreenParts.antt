-- What the functions that write the text of a service screen promise each other: the same lines, from the evidence as it is held.
-- Assumes nothing.
use Rattle.std.specs.Prelude.{ℕ, ◌≤◌, ◌≡◌, Bool, false, List, [], ◌∷◌, ◌++◌, eqb, get_or, if◌then◌else◌}
use Rattle.protocol.specs.Sets.{bit}
use Rattle.protocol.specs.Lists.{when}
use Rattle.views.specs.View.{view_of, views_of}
use Rattle.text.specs.Text.{dec_text}
use Rattle.evidence.specs.declared.Evidence.{Evidence}
use Rattle.screen.specs.Screen.{wished_line, conflict_line, candidates_line, views_line, lines_below, or_none, greatest_word, stored_word, kept_word}

-- The last word of a certificate's line.
abbrev pub kept_or_stored : Bool → List ℕ
kept_or_stored stored = if stored then stored_word else kept_word

-- The number of notice i, in a ring with more than one.
unfoldable pub notice_text : Bool → ℕ → List ℕ
notice_text one i = if one then [] else 44 ∷ dec_text i

-- The lines of the notices below j, by the sets of those that have a certificate and of which it is stored; P has the payloads, and `after` tells when each was complete.
unfoldable pub lines_to : Bool → ℕ → List ℕ → ℕ → (ℕ → ℕ → ℕ) → ℕ → List ℕ
lines_to one certified P stored after j = lines_below one (λ i. when (bit certified i) (get_or P i 0)) (λ i m. bit stored i) after j

-- What is told of the certificates of n notices.
unfoldable pub certified_text : ℕ → ℕ → List ℕ → ℕ → (ℕ → ℕ → ℕ) → List ℕ
certified_text n certified P stored after = or_none (lines_to (eqb n 1) certified P stored after n)

-- The lines of the evidence e of n notices with the candidates C, the greatest history G and the payloads P, without a conflict and in all.

unfoldable pub agreed_lines : ℕ → Evidence → List ℕ → List ℕ → List ℕ → (ℕ → ℕ → ℕ) → List ℕ
agreed_lines n e C G P after =
    candidates_line e.many (views_of C e.count) ++ (views_line greatest_word (views_of G e.length) ++ certified_text n e.certified P e.stored after)

unfoldable pub lines_of : ℕ → Evidence → List ℕ → List ℕ → List ℕ → (ℕ → ℕ → ℕ) → List ℕ
lines_of n e C G P after = wished_line (view_of e.wished) ++ (if e.conflict then conflict_line else agreed_lines n e C G P after)

-- No more views are to be written than an array holds.
pub record Few (e : Evidence) : Type 0 where
  pub candidates : e.conflict ≡ false → e.many ≡ false → e.count ≤ 16
  pub greatest : e.conflict ≡ false → e.length ≤ 16
