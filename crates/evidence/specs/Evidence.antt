-- What the evidence of a record is.
-- Assumes nothing.
use Rattle.std.specs.Prelude.{◌≡◌, Bool, true, false, not, ◌&&◌, List, ℕ, ◌≤◌, ◌<◌, ltb, get_or, length}
use Rattle.std.proofs.Math.Option.{Option}
use Rattle.protocol.specs.Sets.{bit}
use Rattle.protocol.specs.Lists.{any, all, filter, first, when}
use Rattle.protocol.specs.View.{View, Ring, below}
use Rattle.protocol.specs.History.{top}
use Rattle.protocol.specs.Statement.{Stmt}
use Rattle.protocol.specs.Evidence.{wished, candidates, greatest, certificates, is_conflict, is_stored, signed_by_quorum, is_counted_on, is_skipped}
use Rattle.protocol.specs.Count.{Count, count_quorum}
use Rattle.protocol.specs.Turn.{merge_all}
use Rattle.views.specs.View.{view_of, view_in, ring_of_word, views_of}
use Rattle.evidence.specs.declared.Evidence.{Evidence}
use Rattle.evidence.specs.declared.Notice.{Notice}
use Rattle.evidence.specs.declared.Ring as declared
use Rattle.evidence.specs.Notices.{binding_held}

-- The ring that a struct stands for.
abbrev pub ring_is : declared.Ring → Ring
ring_is r = ring_of_word r.init

-- The payload of the certificate for notice i, if there is one: word i of P, where the set of the certified has i.
abbrev pub certificate_at : Evidence → List ℕ → ℕ → Option ℕ
certificate_at e P i = when (bit e.certified i) (get_or P i 0)

-- e is the evidence of X, with the words of the candidates in C, those of the greatest history in G and the payloads of the certificates in P. Only wished and the
-- conflict are told where there is a conflict, and the candidates where they are at most sixteen.
pub record EvidenceOf (R : Ring) (senders : List ℕ) (X : List Stmt) (C G P : List ℕ) (e : Evidence) : Type 0 where
  pub wished : view_of e.wished ≡ wished R X
  pub conflict : e.conflict ≡ is_conflict R senders X
  pub many : e.conflict ≡ false → e.many ≡ ltb 16 (length (candidates R X))
  pub candidates : e.conflict ≡ false → e.many ≡ false → views_of C e.count ≡ candidates R X
  pub greatest : e.conflict ≡ false → views_of G e.length ≡ greatest R X
  pub certificate : e.conflict ≡ false → (i : ℕ) → i < length senders → certificate_at e P i ≡ first (certificates R senders X i)
  pub stored : e.conflict ≡ false → (i : ℕ) → i < length senders → bit e.certified i ≡ true → bit e.stored i ≡ is_stored R X i (get_or P i 0)
  pub within : (i : ℕ) → length senders ≤ i → bit e.certified i ≡ false
  pub skipped : e.conflict ≡ false → (i : ℕ) → i < e.length → bit e.skipped i ≡ is_skipped R X (view_of (get_or G i 0))

-- e is the evidence of X, and a turn goes on: there is no conflict, and there are not too many candidates.
pub record Settled (R : Ring) (senders : List ℕ) (X : List Stmt) (C G P : List ℕ) (e : Evidence) : Type 0 where
  pub of : EvidenceOf R senders X C G P e
  pub agree : e.conflict ≡ false
  pub few : e.many ≡ false

-- The first n words of a list have no bits beyond the width: read as structs, they mean the same views.
pub record Narrow (list : List ℕ) (n : ℕ) : Type 0 where
  pub at : (i : ℕ) → i < n → view_in (get_or list i 0) ≡ view_of (get_or list i 0)

-- ---- what the reports of X come to

module _ (R : Ring) (senders : List ℕ) (X : List Stmt) where
  -- Turn's `remaining`: the views of the greatest history that need reports.
  unfoldable pub remaining_views : List View
  remaining_views = filter (λ u. below R.width u (top R (greatest R X)) && not (is_skipped R X u)) (greatest R X)

  -- Turn's `is_reported`: each of them has a quorum of counted reports.
  unfoldable pub reported_all : Bool
  reported_all = all (λ u. signed_by_quorum R.width X u (is_counted_on R senders X u)) remaining_views

  -- The count of the reports on u that count.
  unfoldable pub reports_count : View → Count
  reports_count u = count_quorum R.width u (is_counted_on R senders X u) X

  -- The report s counts, on one of them.
  unfoldable pub counted_there : Stmt → Bool
  counted_there s = any (λ u. is_counted_on R senders X u s) remaining_views

  -- Turn's `counted_reports`.
  unfoldable pub reports_there : List Stmt
  reports_there = filter counted_there X

-- The notices in H' have the bindings of those in H, merged with what the reports Y tell of each.
pub record MergedAll (H : List Notice) (Y : List Stmt) (H' : List Notice) : Type 0 where
  pub at : (i : ℕ) → binding_held H' i ≡ merge_all i (binding_held H i) Y
