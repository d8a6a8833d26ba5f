use mathlib.Core.Path.{refl}
use Rattle.statements.proofs.Held.{report-made}
use Rattle.statements.proofs.make.report.Goals as goal

pub returns : goal.returns
returns c = report-made _ _ refl refl c.shortened.ensures.1 c.shortened.ensures.0
