use native.Mathlib.Omega.{arith}
use mathlib.Core.Path.{sym, ◌∙◌}
use Rattle.pool.proofs.Records.{wait-first, wait-passes, wait-signs, wait-done, wait-all}
use Rattle.votes.specs.Question.{asks}
use Rattle.votes.proofs.question.count.Goals as goal

pub loop-i-init : goal.loop-i-init
loop-i-init c = wait-first _ _ _ (asks c.args.q c.args.history.now) _ c.unsigned-a.ensures.0

pub loop-i-preserved-then-not-says : goal.loop-i-preserved-then-not-says
loop-i-preserved-then-not-says c = wait-passes _ _ _ (asks c.args.q c.args.history.now) _ _ (omega (arith, c.record_length-end.ensures.1)) c.loop-i.invariant (sym c.says.ensures ∙ c.if-not-says.true)

pub returns-then-is_complete : goal.returns-then-is_complete
returns-then-is_complete c = wait-done _ _ _ (asks c.args.q c.args.history.now) _ _ (omega (arith, c.record_length-end.ensures.1)) c.loop-i.invariant _ _ _ (sym c.says.ensures ∙ c.if-not-says.false) c.origin.ensures.0 c.sign-a.ensures c.is_complete.ensures _ (omega (arith, c.record_length-end.ensures.0)) c.if-is_complete.true

pub loop-i-preserved : goal.loop-i-preserved
loop-i-preserved c = wait-signs _ _ _ (asks c.args.q c.args.history.now) _ _ (omega (arith, c.record_length-end.ensures.1)) c.loop-i.invariant _ _ _ (sym c.says.ensures ∙ c.if-not-says.false) c.origin.ensures.0 c.sign-a.ensures c.is_complete.ensures c.if-is_complete.false

pub returns : goal.returns
returns c = wait-all _ _ _ (asks c.args.q c.args.history.now) _ _ _ _ (omega arith) c.record_length-end.ensures.0 c.loop-i.invariant
