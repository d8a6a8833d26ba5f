use mathlib.Core.Path.{ap, ◌∙◌}
use Rattle.pool.proofs.Reports.{no-pair, one-pair}
use Rattle.pool.proofs.report.put_pairs.Goals as goal

pub loop-j-init : goal.loop-j-init
loop-j-init c = no-pair _ _ _

pub loop-j-preserved : goal.loop-j-preserved
loop-j-preserved c = one-pair _ _ _ _ _ _ _ c.loop-j.invariant (c.bound_payload.ensures ∙ ap (λ g. g.payload) c.told_at-t.ensures) (c.kept_payload.ensures ∙ ap (λ g. g.kept) c.told_at-t.ensures)
