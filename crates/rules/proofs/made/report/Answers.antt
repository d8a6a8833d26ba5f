use Rattle.rules.proofs.Applied.{reporting-made}
use Rattle.rules.proofs.made.report.Goals as goal

pub returns : goal.returns
returns c = reporting-made _ _ c.of_word-w.ensures c.history_of-h.ensures.0 c.report.ensures
