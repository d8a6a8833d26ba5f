use mathlib.Core.Path.{refl, ap, sym, ◌∙◌}
use Rattle.protocol.specs.Lists.{list_of}
use borrow.Author.Tests.{ne_eqb}
use Rattle.protocol.specs.Statement.{same_groups}
use Rattle.statements.specs.Block.{group_at}
use Rattle.pool.specs.Pool.{told_at}
use Rattle.pool.proofs.Reports.{plain-same, report-same, groups-short, many-report}
use Rattle.pool.proofs.report.same_groups.Goals as goal

pub returns-then-kind : goal.returns-then-kind
returns-then-kind c = plain-same _ c.args.groups _ _ _ _ refl _ (λ e. c.if-kind.true (c.kind.ensures.0 ∙ e)) c.payload.ensures

pub returns-then-c-groups : goal.returns-then-c-groups
returns-then-c-groups c =
    report-same _ c.args.groups c.args.payload _ _ _ refl c.min-c.result _ (sym c.kind.ensures.0 ∙ c.if-kind.false) (c.min-c.ensures ∙ many-report _ c.args.groups _ (sym c.kind.ensures.0 ∙ c.if-kind.false) refl)
    (c.same_report.ensures ∙ ap (λ k. same_groups (list_of c.min-c.result (group_at c.args.block.now)) (list_of k (told_at c.args.words.now c.args.n))) (c.if-c-groups.true ∙ c.groups.ensures.0))

pub returns-else-c-groups : goal.returns-else-c-groups
returns-else-c-groups c =
    ne_eqb _ _ c.if-c-groups.false
    ∙ report-same _ c.args.groups c.args.payload _ _ _ refl c.min-c.result _ (sym c.kind.ensures.0 ∙ c.if-kind.false) (c.min-c.ensures ∙ many-report _ c.args.groups _ (sym c.kind.ensures.0 ∙ c.if-kind.false) refl)
    (groups-short _ _ _ _ (λ q. c.if-c-groups.false (q ∙ sym c.groups.ensures.0)))
