-- How a report is judged: by the evidence, the candidates, the certificates and what the senders prepared.
-- Assumes nothing.
use Rattle.std.specs.Prelude.{◌≡◌, Bool, false, not, cond, ◌&&◌, ◌||◌, List, ℕ, ◌%◌, ◌≤◌, ◌<◌, min, eqb, get_or}
use Rattle.protocol.specs.Sets.{bit, every}
use Rattle.protocol.specs.Lists.{◌∈◌, any, filter}
use Rattle.protocol.specs.View as protocol
use Rattle.protocol.specs.View.{View, same_view, member, within, below}
use Rattle.protocol.specs.History.{holds, top}
use Rattle.protocol.specs.Statement.{Group, Stmt, unbound, binding_of, group_of, is_kind}
use Rattle.protocol.specs.Evidence.{signed_by_quorum}
use Rattle.views.specs.View.{view_of, views_of}
use Rattle.pool.specs.Pool.{head_at, group_count, stmt_at}
use Rattle.evidence.specs.declared.Evidence.{Evidence}
use Rattle.evidence.specs.declared.Ring.{Ring}
use Rattle.evidence.specs.declared.reports.Judge.{Judge}
use Rattle.evidence.specs.Shown.{listed, twofold, Linked}

-- Of how many notices statement s tells: only a report tells of any.
unfoldable pub told_count : List ℕ → ℕ → ℕ
told_count W s = cond (eqb (head_at W s % 256) 5) (group_count W s) 0

-- The binding that is told of notice i is explained by what its sender prepared: K has the rows of it.
unfoldable pub binding_holds : Judge → List ℕ → ℕ → Group → Bool
binding_holds q K i g = (not (eqb g.binding 1) || listed K q.known i g.payload) && (not (eqb g.binding 2) || twofold K q.known i)

-- The payload that is told to be kept of it, if there is one, is that of its certificate: P has the payloads of the certificates.
unfoldable pub kept_holds : Judge → List ℕ → ℕ → Group → Bool
kept_holds q P i g = not (eqb g.stored 1) || bit q.certified i && eqb g.kept (get_or P i 0)

-- What is told of notice i holds.
unfoldable pub told_holds : Judge → List ℕ → List ℕ → ℕ → Group → Bool
told_holds q P K i g = binding_holds q K i g && kept_holds q P i g

-- C has the words of the candidates.
module _ (q : Judge) (C P K : List ℕ) where
  -- The report s counts.
  unfoldable pub counts_by : Stmt → Bool
  counts_by s =
      member s.at s.origin && within 16 s.view (view_of q.wished) && holds (views_of C q.count) s.views
      && every q.notices (λ i. told_holds q P K i (group_of s i))

  -- It is a report on u that counts.
  unfoldable pub counts_on : View → Stmt → Bool
  counts_on u s = same_view s.at u && is_kind 5 s && counts_by s

  -- u has a quorum of such among the reports Y.
  unfoldable pub has_reports : List Stmt → View → Bool
  has_reports Y u = signed_by_quorum 16 Y u (counts_on u)

  -- s is a report that counts, on a view of H.
  unfoldable pub counts_among : List View → Stmt → Bool
  counts_among H s = is_kind 5 s && any (same_view s.at) H && counts_by s

-- The first r words of L are those of the first n in G whose views lie below the last of these and are not skipped, where p tells the skipped and the set `skipped` their places.
pub record RemainingOf (R : protocol.Ring) (G : List ℕ) (n skipped : ℕ) (L : List ℕ) (r : ℕ) : Type 0 where
  pub most : r ≤ 16
  pub are : (p : View → Bool) → ((i : ℕ) → i < n → bit skipped i ≡ p (view_of (get_or G i 0))) → views_of L r ≡ filter (λ u. below 16 u (top R (views_of G n)) && not (p u)) (views_of G n)

-- What a report is judged by can be read: there are not too many candidates and notices, and the rows of what was prepared are linked.
pub record Usable (q : Judge) (K R : List ℕ) : Type 0 where
  pub count : q.count ≤ 16
  pub notices : q.notices ≤ 64
  pub linked : Linked K R q.known

-- Statement s tells of no binding and of nothing kept.
pub record TellsNothing (W : List ℕ) (s : ℕ) : Type 0 where
  pub none : (i : ℕ) → ((group_of (stmt_at W s) i).binding ≡ 0) × ((group_of (stmt_at W s) i).stored ≡ 0)

-- What reports are judged by in a ring, with the evidence e and the known rows of what was prepared.
abbrev pub judge_of : Ring → Evidence → ℕ → Judge
judge_of ring e known = record { wished = e.wished; count = e.count; certified = e.certified; notices = min ring.notices 64; known = known }

-- Every notice of which one of Y tells a binding is in the set r.
pub record Touched (Y : List Stmt) (r : ℕ) : Type 0 where
  pub none : (i : ℕ) → bit r i ≡ false → (s : Stmt) → s ∈ Y → binding_of (group_of s i) ≡ unbound
