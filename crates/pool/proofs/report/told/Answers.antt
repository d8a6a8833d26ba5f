use Rattle.pool.proofs.Reports.{told-made}
use Rattle.pool.proofs.report.told.Goals as goal

pub returns : goal.returns
returns c = told-made _ _ _ c.binding.result _ _ _ c.binding.ensures c.stored.ensures c.has.ensures c.told_kept.ensures
