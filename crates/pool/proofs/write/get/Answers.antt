use mathlib.Core.Path.{◌∙◌}
use Rattle.statements.specs.Meaning.{stmt_of}
use Rattle.views.proofs.Views.{view-whole}
use Rattle.pool.proofs.Laws.{at-fits, view-fits}
use Rattle.pool.proofs.Reports.{groups-got}
use Rattle.pool.proofs.Writes.{stmts}
use Rattle.pool.proofs.write.get.Goals as goal

pub returns : goal.returns
unfolding stmt_of
returns c = (stmts c.kind.ensures.0 c.origin.ensures.0 (c.of_word.ensures ∙ view-whole _ c.at.ensures (at-fits _ _)) (c.of_word-2.ensures ∙ view-whole _ c.view.ensures (view-fits _ _)) c.notice.ensures.0 (groups-got _ _ _ _ _ _ c.kind.ensures.0 c.groups-groups.ensures c.payload.ensures c.get_told.ensures) c.get_views.ensures.0, c.get_views.ensures.1)
