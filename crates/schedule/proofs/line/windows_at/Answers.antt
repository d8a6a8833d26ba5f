use Rattle.std.proofs.Common.{rules}
use Rattle.schedule.specs.Reading.{the_windows}
use Rattle.schedule.proofs.Values.{many-of}
use Rattle.schedule.proofs.Windows.{comma-window}
use Rattle.schedule.proofs.line.windows_at.Goals as goal

pub returns : goal.returns
returns c = many-of the_windows _ _ _ _ (λ at r s. search rules) comma-window _ _ c.many_at.ensures
