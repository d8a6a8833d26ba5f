use mathlib.Core.Path.{◌∙◌}
use Rattle.protocol.specs.History.{top}
use Rattle.views.specs.View.{ring_of_word}
use Rattle.views.proofs.Histories.{top-none, top-some}
use Rattle.pool.proofs.Laws.{of-views}
use Rattle.pool.proofs.compare.top_view.Goals as goal

pub returns-then-c-eq0 : goal.returns-then-c-eq0
returns-then-c-eq0 c = of-views (top (ring_of_word c.args.init)) _ _ _ c.count-c.ensures.0 (top-none _ (ring_of_word c.args.init) _ c.if-c-eq0.true)

pub returns : goal.returns
returns c = of-views (top (ring_of_word c.args.init)) _ _ _ c.count-c.ensures.0 (c.nth.ensures ∙ top-some _ (ring_of_word c.args.init) _ c.if-c-eq0.false)
