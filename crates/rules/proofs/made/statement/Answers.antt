use mathlib.Core.Logic.{inl, inr}
use Rattle.rules.proofs.Applied.{report-made, enter-made, view_made, history-made, ack-made, store-made, deliver-made, join-made, leave-made, prepare-made}
use Rattle.rules.proofs.made.statement.Goals as goal

pub returns-in-Report : goal.returns-in-Report
returns-in-Report c = report-made _ _ c.in-Report.is c.report.ensures

pub returns-in-AgreeView : goal.returns-in-AgreeView
returns-in-AgreeView c = view_made _ _ c.of_word.ensures c.in-AgreeView.is c.agree_view.ensures

pub returns-in-AgreeHistory : goal.returns-in-AgreeHistory
returns-in-AgreeHistory c = history-made _ _ c.history_of.ensures.0 c.in-AgreeHistory.is c.agree_history.ensures

pub returns-in-Ack : goal.returns-in-Ack
returns-in-Ack c = ack-made _ _ c.in-Ack.is c.ack.ensures

pub returns-in-Store : goal.returns-in-Store
returns-in-Store c = store-made _ _ c.in-Store.is c.store.ensures

pub returns-in-Join : goal.returns-in-Join
returns-in-Join c = elim c.in-Join.is [
  | inl e ↦ join-made _ _ e c.join.ensures
  | inr (inl (_, e)) ↦ enter-made _ _ e c.join.ensures
  | inr (inr (_, _, e)) ↦ deliver-made _ _ e c.join.ensures
]

pub returns-in-Leave : goal.returns-in-Leave
returns-in-Leave c = leave-made _ _ c.in-Leave.is c.leave.ensures

pub returns-in-Prepare : goal.returns-in-Prepare
returns-in-Prepare c = prepare-made _ _ c.in-Prepare.is c.prepare.ensures
