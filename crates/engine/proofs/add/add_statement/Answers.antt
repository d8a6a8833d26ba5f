use mathlib.Core.Path.{sym, ◌∙◌}
use borrow.Author.Tests.{not-true, not-false}
use Rattle.engine.proofs.Keeps.{err-is}
use Rattle.engine.proofs.Performs.{adds-unready, adds-bad, adds-unknown, adds_again, adds-full, adds-taken, notice-as, short-by-rules}
use Rattle.engine.proofs.add.add_statement.Goals as goal

pub returns-then-not-ready : goal.returns-then-not-ready
returns-then-not-ready c = adds-unready _ _ _ _ _ (not-true _ c.if-not-ready.true-raw)

pub returns-then-not-keeps_field_rules : goal.returns-then-not-keeps_field_rules
returns-then-not-keeps_field_rules c = adds-bad _ _ _ _ _ (not-false _ c.if-not-ready.false-raw) (sym c.keeps_field_rules.ensures ∙ not-true _ c.if-not-keeps_field_rules.true-raw)

pub returns-then-not-is_notice : goal.returns-then-not-is_notice
returns-then-not-is_notice c = adds-unknown _ _ _ _ _ (not-false _ c.if-not-ready.false-raw) (sym c.keeps_field_rules.ensures ∙ not-false _ c.if-not-keeps_field_rules.false-raw) (notice-as c.args.st _ _ _ c.is_notice.ensures (not-true _ c.if-not-is_notice.true-raw))

pub returns-then-record_holds : goal.returns-then-record_holds
returns-then-record_holds c = adds_again _ _ _ _ _ (not-false _ c.if-not-ready.false-raw) (sym c.keeps_field_rules.ensures ∙ not-false _ c.if-not-keeps_field_rules.false-raw) (notice-as c.args.st _ _ _ c.is_notice.ensures (not-false _ c.if-not-is_notice.false-raw)) (sym c.record_holds.ensures ∙ c.if-record_holds.true)

pub keep-requires : goal.keep-requires
keep-requires c = short-by-rules _ _ _ _ c.keeps_field_rules.ensures (not-false _ c.if-not-keeps_field_rules.false-raw)

pub returns-in_err-keep : goal.returns-in_err-keep
returns-in_err-keep c = adds-full _ _ _ _ _ (not-false _ c.if-not-ready.false-raw) (sym c.keeps_field_rules.ensures ∙ not-false _ c.if-not-keeps_field_rules.false-raw) (notice-as c.args.st _ _ _ c.is_notice.ensures (not-false _ c.if-not-is_notice.false-raw)) (sym c.record_holds.ensures ∙ c.if-record_holds.false) _ _ _ c.keep.ensures c.in_err-keep.was _ (err-is _ _ c.from_residual.ensures.1)

pub returns : goal.returns
returns c = adds-taken _ _ _ _ _ (not-false _ c.if-not-ready.false-raw) (sym c.keeps_field_rules.ensures ∙ not-false _ c.if-not-keeps_field_rules.false-raw) (notice-as c.args.st _ _ _ c.is_notice.ensures (not-false _ c.if-not-is_notice.false-raw)) (sym c.record_holds.ensures ∙ c.if-record_holds.false) _ _ _ c.keep.ensures _ c.in_ok-keep.was
