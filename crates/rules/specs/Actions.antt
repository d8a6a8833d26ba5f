-- What the actions of the rules mean: the protocol's actions, and the statements that they sign.
-- Assumes nothing.
use Rattle.std.specs.Prelude.{◌≡◌, List, ℕ, ◌≤◌, min, Option, Some, None}
use Rattle.std.proofs.Math.Option as maybe
use Rattle.protocol.specs.Lists.{list_of}
use Rattle.protocol.specs.View.{View}
use Rattle.protocol.specs.Statement.{Stmt, Binding, join, leave, agree_view, agree_history, report, prepare, ack, store}
use Rattle.protocol.specs.Turn as turn
use Rattle.views.specs.View.{view_in}
use Rattle.views.specs.Held.{view_is}
use Rattle.statements.specs.declared.Statement.{Statement}
use Rattle.statements.specs.Block.{group_at}
use Rattle.statements.specs.Meaning.{stmt_of}
use Rattle.rules.specs.declared.Situation.{Situation}
use Rattle.rules.specs.declared.Action.{Action}
use Rattle.rules.specs.declared.Action.TheVariants.{Report, Enter, AgreeView, AgreeHistory, Ack, Store, Deliver, Join, Leave, Prepare}

-- The statement that an action signs in the situation s, where H has all candidates and the block B tells what a report does. Of an action that signs none it means nothing.
unfoldable pub statement_of : Situation → List View → List ℕ → Action → Stmt
statement_of s H B (Report u) = report s.number (view_is u) (view_in s.shown.wished) (list_of (min s.ring.notices 64) (group_at B)) H
statement_of s H B (Enter v) = join s.number
statement_of s H B AgreeView = agree_view s.number (view_is s.top) (view_in s.shown.wished)
statement_of s H B AgreeHistory = agree_history s.number (view_is s.top) H
statement_of s H B (Ack j m) = ack s.number (view_is s.top) j m
statement_of s H B (Store j m) = store s.number (view_is s.top) j m
statement_of s H B (Deliver j m) = join s.number
statement_of s H B Join = join s.number
statement_of s H B Leave = leave s.number
statement_of s H B (Prepare j m) = prepare s.number j m

-- What an action has the controller do, where b has the bindings with which it enters a view.
unfoldable pub action_is : Situation → List View → List ℕ → (ℕ → Binding) → Action → turn.Action
action_is s H B b (Report u) = turn.sign (statement_of s H B (Report u))
action_is s H B b (Enter v) = turn.enter (view_is v) b
action_is s H B b AgreeView = turn.sign (statement_of s H B AgreeView)
action_is s H B b AgreeHistory = turn.sign (statement_of s H B AgreeHistory)
action_is s H B b (Ack j m) = turn.bind_and_sign j m (statement_of s H B (Ack j m))
action_is s H B b (Store j m) = turn.sign (statement_of s H B (Store j m))
action_is s H B b (Deliver j m) = turn.deliver j m
action_is s H B b Join = turn.sign (statement_of s H B Join)
action_is s H B b Leave = turn.sign (statement_of s H B Leave)
action_is s H B b (Prepare j m) = turn.sign (statement_of s H B (Prepare j m))

-- What the answer of a rule has it do: nothing where there is no action.
abbrev pub answer_is : Situation → List View → List ℕ → (ℕ → Binding) → Option Action → maybe.Option turn.Action
answer_is s H B b None = maybe.none
answer_is s H B b (Some a) = maybe.some (action_is s H B b a)

-- r is the statement that the action a signs, with the block that goes with it: only a report asks the block.
pub record Makes (s : Situation) (H : List View) (a : Action) (r : Statement) : Type 0 where
  pub means : (B : List ℕ) → stmt_of r B ≡ statement_of s H B a
  pub short : r.history.len ≤ 16
