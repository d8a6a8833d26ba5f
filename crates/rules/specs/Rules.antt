-- What the rules of a turn look at, and what each promises.
-- Assumes nothing.
use Rattle.std.specs.Prelude.{◌≡◌, Bool, true, false, not, ◌&&◌, ◌||◌, List, [], ◌∷◌, map, ℕ, ◌<◌, min, eqb, ltb, length, get_or}
use Rattle.std.specs.Prelude as code
use Rattle.std.specs.Prelude.{Some, None}
use Rattle.std.proofs.Math.Option.{Option, some, none}
use Rattle.protocol.specs.Sets.{bit, every}
use Rattle.protocol.specs.Lists.{any, find, when, given, is_some, first_some}
use Rattle.protocol.specs.View.{View, same_view, member, below}
use Rattle.protocol.specs.Statement.{Stmt, Binding, unbound, bound, barred, binding_of, payload_of, tells, is_kind, same_stmt, prepare}
use Rattle.protocol.specs.Evidence.{wished, candidates, is_stored}
use Rattle.protocol.specs.Window.{is_open}
use Rattle.protocol.specs.Controller.{Controller}
use Rattle.protocol.specs.Turn as turn
use Rattle.views.specs.View.{view_in, views_in}
use Rattle.views.specs.Held.{view_is}
use Rattle.statements.specs.Block.{group_at}
use Rattle.pool.specs.Pool.{stmt_at}
use Rattle.evidence.specs.Evidence.{ring_is}
use Rattle.evidence.specs.Notices.{senders_of}
use Rattle.rules.specs.declared.Situation.{Situation}
use Rattle.rules.specs.declared.Action.{Action}
use Rattle.rules.specs.Actions.{answer_is}

-- ---- what is asked of the record

-- The statement is one of controller k, of this kind.
unfoldable pub own_kind : ℕ → ℕ → Stmt → Bool
own_kind k kind s = eqb s.origin k && eqb s.kind kind

-- And it is at t.
unfoldable pub own_at : ℕ → ℕ → View → Stmt → Bool
own_at k kind t s = eqb s.origin k && (eqb s.kind kind && same_view s.at t)

-- The same of notice i.

unfoldable pub own_of : ℕ → ℕ → ℕ → Stmt → Bool
own_of k kind i s = eqb s.origin k && (eqb s.kind kind && eqb s.notice i)

unfoldable pub own_of_at : ℕ → ℕ → View → ℕ → Stmt → Bool
own_of_at k kind t i s = eqb s.origin k && (eqb s.kind kind && same_view s.at t && eqb s.notice i)

-- It is a prepare of notice i by the controller k, and k is a member of t.

unfoldable pub prepared_by : ℕ → ℕ → Stmt → Bool
prepared_by k i s = is_kind 6 s && eqb s.origin k && eqb s.notice i

unfoldable pub prepared_in : View → List ℕ → ℕ → Stmt → Bool
prepared_in t S i s = member t (get_or S i 0) && prepared_by (get_or S i 0) i s

-- It is the prepare by k that was requested: of notice i, with word i of P.
unfoldable pub sent_by : ℕ → List ℕ → ℕ → Stmt → Bool
sent_by k P i s = same_stmt (prepare k i (get_or P i 0)) s

-- The payload of the first prepare of notice i by its sender.
unfoldable pub first_prepare : ℕ → ℕ → List Stmt → Option ℕ
first_prepare sender i X = given (find (prepared_by sender i) X) (λ s. some (payload_of s))

-- Controller k, at the top t, is to report on u.
unfoldable pub report_due : List Stmt → ℕ → View → View → Bool
report_due X k t u = below 16 u t && member u k && not (any (own_at k 5 u) X)

-- Of the statements of controller k, Y has those that X has: a test that only such can pass finds one in both or in neither.
pub record Owns (X Y : List Stmt) (k : ℕ) : Type 0 where
  pub asked : (p : Stmt → Bool) → ((s : Stmt) → p s ≡ true → s.origin ≡ k) → any p Y ≡ any p X

-- ---- sets of notices

-- The set r has the notices i for which a statement of X has q i.
pub record Marks (q : ℕ → Stmt → Bool) (X : List Stmt) (r : ℕ) : Type 0 where
  pub bits : (i : ℕ) → i < 64 → bit r i ≡ any (q i) X

-- Notice i is the one that was picked, if there is one.
abbrev pub is_picked : code.Option ℕ → ℕ → Bool
is_picked None i = false
is_picked (Some j) i = eqb i j

-- r is the one notice i for which the statement s has q i. (Where it is above 63 there is none, as where it is None.)
pub record Picks (q : ℕ → Stmt → Bool) (s : Stmt) (r : code.Option ℕ) : Type 0 where
  pub at : (i : ℕ) → i < 64 → q i s ≡ is_picked r i

-- What a closure answers of the number of a statement in the pool picks so.
abbrev pub PicksEach : (ℕ → code.Option ℕ → Type 0) → List ℕ → (ℕ → Stmt → Bool) → Type 0
PicksEach answers W q = (n : ℕ) (r : code.Option ℕ) → n < 65536 → answers n r → Picks q (stmt_at W n) r

-- The set has none of the first n notices.
pub record Misses (set n : ℕ) : Type 0 where
  pub none : (i : ℕ) → i < min n 64 → bit set i ≡ false

-- r is the least notice of the set, and below n.
pub record Least (set n r : ℕ) : Type 0 where
  pub below : r < n
  pub notice : r < 64
  pub has : bit set r ≡ true
  pub before : (i : ℕ) → i < r → bit set i ≡ false

-- ---- what there is to ack

-- To one bound to m, m; to one unbound, the first prepare.
abbrev pub ack_for : Binding → Option ℕ → Option ℕ
ack_for unbound o = o
ack_for (bound m) o = some m
ack_for barred o = none

-- Of notice i, where the block B tells its binding and S has its sender.
unfoldable pub ackable : List ℕ → List Stmt → View → List ℕ → ℕ → Option ℕ
ackable S X t B i = ack_for (binding_of (group_at B i)) (given (find (prepared_by (get_or S i 0) i) X) (λ s. when (member t (get_or S i 0)) (payload_of s)))

-- The set r has those of the first n notices that are not in acked and of which there is something to ack.
pub record AcksDue (S : List ℕ) (X : List Stmt) (t : View) (B : List ℕ) (acked n r : ℕ) : Type 0 where
  pub bits : (i : ℕ) → i < min n 64 → bit r i ≡ (not (bit acked i) && is_some (ackable S X t B i))

-- The set r has, of the first n notices that are not in the set, those that their senders prepared.
pub record PreparedOutside (S : List ℕ) (X : List Stmt) (t : View) (set n r : ℕ) : Type 0 where
  pub bits : (i : ℕ) → i < min n 64 → bit set i ≡ false → bit r i ≡ any (prepared_in t S i) X

-- ---- what a leave waits for

-- Of the first n notices, each that is certified or that k prepared is delivered.
unfoldable pub may_leave : ℕ → ℕ → ℕ → ℕ → List Stmt → Bool
may_leave n delivered certified k Y = every n (λ i. bit delivered i || not (bit certified i || any (own_of k 6 i) Y))

-- ---- what the rules look at

-- s is the situation of the controller d with the record X.
pub record SituationOf (d : Controller) (X : List Stmt) (s : Situation) : Type 0 where
  pub number : d.number ≡ s.number
  pub ring : d.ring ≡ ring_is s.ring
  pub notices : length d.senders ≡ min s.ring.notices 64
  pub delivered : (i : ℕ) → i < length d.senders → d.delivered i ≡ bit s.delivered i
  pub joining : d.join_requested ≡ s.joining
  pub leaving : (d.leave_requested && is_open d.windows s.minute) ≡ s.leaving
  pub active : ltb 0 (length d.entered) ≡ s.active
  pub entered : turn.has_entered d X (view_is s.top) ≡ s.entered
  pub stands : turn.stands d X ≡ s.stands
  pub left : bit (turn.T d X).left d.number ≡ s.left
  pub top : turn.T d X ≡ view_is s.top
  pub wished : wished d.ring X ≡ view_in s.shown.wished
  pub certificate : (i : ℕ) → i < length d.senders → is_some (turn.certificate d X i) ≡ bit s.shown.certified i
  pub stored : (i m : ℕ) → i < length d.senders → turn.certificate d X i ≡ some m → is_stored d.ring X i m ≡ bit s.shown.stored i

-- The block B tells what a report of the controller d does: of each notice its binding and its certificate's payload.
pub record ToldOf (d : Controller) (X : List Stmt) (B : List ℕ) : Type 0 where
  pub at : (i : ℕ) → i < length d.senders → group_at B i ≡ tells (d.binding i) (turn.certificate d X i)

-- P has the payloads that are to be sent, of the notices in the set `requested`.
pub record SendsOf (d : Controller) (requested : ℕ) (P : List ℕ) : Type 0 where
  pub at : (i : ℕ) → i < length d.senders → d.send_requested i ≡ when (bit requested i) (get_or P i 0)

-- What is lent to a rule: the record; a list in which the controller's own statements are; words of which the first are the views of all candidates, or of the greatest history;
-- the senders of the notices; the block of a report; the payloads to send.
pub data Lent : Type 0 where
  statements : List Stmt → Lent
  own_statements : List Stmt → Lent
  candidate_views : List ℕ → Lent
  greatest_views : List ℕ → Lent
  senders : List ℕ → Lent
  told : List ℕ → Lent
  sends : List ℕ → Lent

-- What is lent is what it says, of the controller d with the record X.
abbrev pub LentIs : Situation → Controller → List Stmt → Lent → Type 0
LentIs s d X (statements Z) = Z ≡ X
LentIs s d X (own_statements Y) = Owns X Y s.number
LentIs s d X (candidate_views C) = views_in C s.shown.count ≡ candidates d.ring X
LentIs s d X (greatest_views G) = views_in G s.shown.length ≡ turn.G d X
LentIs s d X (senders S) = d.senders ≡ senders_of S s.ring.notices
LentIs s d X (told B) = ToldOf d X B
LentIs s d X (sends P) = SendsOf d s.requested P

abbrev pub AllLent : Situation → Controller → List Stmt → List Lent → Type 0
AllLent s d X [] = Unit {0}
AllLent s d X (l ∷ L) = LentIs s d X l × AllLent s d X L

-- ---- what a rule promises

abbrev pub Rule : Type 0
Rule = Controller → List Stmt → Option turn.Action

-- Rule 9, and the first rule of all, at a minute of the week.

abbrev pub rule9_at : ℕ → Rule
rule9_at minute d X = turn.rule9 d X minute

abbrev pub first_rule_at : ℕ → Rule
first_rule_at minute d X = turn.first_rule d X minute

-- What the first of the rules that applies has a controller do.
unfoldable pub first_among : List Rule → Rule
first_among rules d X = first_some (map (λ rule. rule d X) rules)

-- The bindings with which the controller d enters its top.
abbrev pub merged_by : Controller → List Stmt → ℕ → Binding
merged_by d X i = turn.merge_all i (d.binding i) (turn.counted_reports d X)

-- For every controller whose situation s is, and of whom L is lent, r is what the rule has it do, if the rule applies. B is the block that a report of its goes with.
pub record Does (L : List Lent) (s : Situation) (rule : Rule) (r : code.Option Action) : Type 0 where
  pub means : (d : Controller) (X : List Stmt) (B : List ℕ) → SituationOf d X s → ToldOf d X B → AllLent s d X L
      → answer_is s (candidates d.ring X) B (merged_by d X) r ≡ rule d X
