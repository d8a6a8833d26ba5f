use Rattle.views.specs.View.{ring_of_word, views_of}
use Rattle.views.proofs.Histories.{top-none, top-some}
use Rattle.evidence.proofs.remaining.top_of.Goals as goal

pub returns-then-n-eq0 : goal.returns-then-n-eq0
unfolding views_of
returns-then-n-eq0 c = top-none _ (ring_of_word c.args.init) _ c.if-n-eq0.true

pub returns-else-n-eq0 : goal.returns-else-n-eq0
unfolding views_of
returns-else-n-eq0 c = top-some _ (ring_of_word c.args.init) _ c.if-n-eq0.false
