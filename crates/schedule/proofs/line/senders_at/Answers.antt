use Rattle.std.proofs.Common.{rules}
use Rattle.statements.proofs.GroupLaws.{comma-number}
use Rattle.schedule.specs.Reading.{the_senders}
use Rattle.schedule.proofs.Values.{many-of}
use Rattle.schedule.proofs.line.senders_at.Goals as goal

pub returns : goal.returns
returns c = many-of the_senders _ _ _ _ (λ at r s. search rules) comma-number _ _ c.many_at.ensures
