-- What the rules look at, of a controller, and what doing what they say asks.
-- Assumes nothing.
use Rattle.std.specs.Prelude.{◌≡◌, Bool, not, ◌&&◌, List, ℕ, ◌-◌, ◌≤◌, ◌<◌, min, ltb, get_or}
use Rattle.protocol.specs.Sets.{bit}
use Rattle.protocol.specs.Lists.{any, all}
use Rattle.protocol.specs.View.{View, same_view, below}
use Rattle.protocol.specs.Statement.{Stmt, tells}
use Rattle.protocol.specs.Window.{is_open}
use Rattle.protocol.specs.Controller.{with_entered, with_binding}
use Rattle.protocol.specs.Turn as turn
use Rattle.views.specs.View.{view_in, views_in}
use Rattle.views.specs.Held.{view_is, views_is}
use Rattle.views.specs.declared.View as views
use Rattle.statements.specs.Block.{group_at}
use Rattle.statements.specs.declared.Binding.{Binding}
use Rattle.statements.specs.declared.Told.{Told}
use Rattle.evidence.specs.declared.Evidence.{Evidence}
use Rattle.evidence.specs.declared.Notice.{Notice}
use Rattle.evidence.specs.declared.Ring.{Ring}
use Rattle.evidence.specs.Evidence.{ring_is, certificate_at, Settled}
use Rattle.evidence.specs.Notices.{senders_of, binding_held}
use Rattle.rules.specs.declared.Action.{Action}
use Rattle.rules.specs.declared.Action.TheVariants.{Report, Enter, AgreeView, AgreeHistory, Ack, Store, Deliver, Join, Leave, Prepare}
use Rattle.rules.specs.declared.Situation.{Situation}
use Rattle.rules.specs.Actions.{action_is}
use Rattle.rules.specs.Rules.{SituationOf, merged_by}
use Rattle.engine.specs.declared.Controller as held
use Rattle.engine.specs.Meaning.{controller_is}

-- The view u is not greater than t.
unfoldable pub not_above : View → View → Bool
not_above t u = not (below 16 t u)

-- The ring is the controller's.
pub record RingOf (c : held.Controller) (r : Ring) : Type 0 where
  pub is : ring_is r ≡ (controller_is c).ring
  pub notices : r.notices ≡ c.notices

-- The controller c asked to leave, and the minute is inside a window.
unfoldable pub leaves_at : held.Controller → ℕ → Bool
leaves_at c minute = c.leaving && is_open (controller_is c).windows minute

-- s is the situation of the controller c in its ring r at the minute m, with a record whose evidence is e and whose greatest history is in G.
pub record Situated (c : held.Controller) (r : Ring) (G : List ℕ) (e : Evidence) (m : ℕ) (s : Situation) : Type 0 where
  pub number : s.number ≡ c.number
  pub ring : s.ring ≡ r
  pub delivered : s.delivered ≡ c.delivered
  pub requested : s.requested ≡ c.requested
  pub joining : s.joining ≡ c.joining
  pub minute : s.minute ≡ m
  pub leaving : s.leaving ≡ leaves_at c m
  pub shown : s.shown ≡ e
  pub top : view_is s.top ≡ view_in (get_or G (e.length - 1) 0)
  pub entered : s.entered ≡ any (same_view (view_is s.top)) (views_is c.entered)
  pub stands : s.stands ≡ (s.entered && all (not_above (view_is s.top)) (views_is c.entered))
  pub left : s.left ≡ bit (view_is s.top).left c.number
  pub active : s.active ≡ ltb 0 (min c.entered.len 16)

-- What is told of notice j with the binding b, by the set of the notices that have a certificate and the words P of their payloads.
abbrev pub notice_told : Binding → ℕ → List ℕ → ℕ → Told
notice_told b certified P j = record { binding = b; stored = bit certified j; kept = get_or P j 0 }

-- The block B tells of the first n notices their bindings in H and the payloads of their certificates, by the evidence e and its words P.
pub record ToldTo (H : List Notice) (e : Evidence) (P : List ℕ) (n : ℕ) (B : List ℕ) : Type 0 where
  pub at : (i : ℕ) → i < n → group_at B i ≡ tells (binding_held H i) (certificate_at e P i)

-- ---- doing what a rule says

-- s is the situation of the controller c with the record X, whose evidence it has; C, G and P are the words of the candidates, of the greatest history and of the certificates.
pub record Doing (c : held.Controller) (X : List Stmt) (C G P : List ℕ) (s : Situation) : Type 0 where
  pub few : s.shown.count ≤ 16
  pub ring : RingOf c s.ring
  pub situation : SituationOf (controller_is c) X s
  pub settled : Settled (ring_is s.ring) (senders_of c.senders s.ring.notices) X C G P s.shown

-- The notice that the action is about is one of the 64.
abbrev pub Known : Action → Type 0
Known (Report u) = Unit {0}
Known (Enter v) = Unit {0}
Known AgreeView = Unit {0}
Known AgreeHistory = Unit {0}
Known (Ack j m) = j < 64
Known (Store j m) = Unit {0}
Known (Deliver j m) = j < 64
Known Join = Unit {0}
Known Leave = Unit {0}
Known (Prepare j m) = Unit {0}

-- What the action a has the controller c do, where C has the words of the candidates and the block B tells what a report does.
abbrev pub done_by : held.Controller → List Stmt → List ℕ → List ℕ → Situation → Action → turn.Action
done_by c X C B s a = action_is s (views_in C s.shown.count) B (merged_by (controller_is c) X) a

-- d is the controller c that entered v, with the bindings merged.
abbrev pub EntersMerged : held.Controller → List Stmt → views.View → held.Controller → Type 0
EntersMerged c X v d = controller_is d ≡ with_entered (turn.entered_after (view_is v) (views_is c.entered)) (with_binding (merged_by (controller_is c) X) (controller_is c))
