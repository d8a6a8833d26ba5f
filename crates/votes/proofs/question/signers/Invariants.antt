use Rattle.protocol.specs.Evidence.{signs}
use Rattle.views.specs.Sets.{IsSet}
use Rattle.pool.specs.Pool.{record_up_to}
use Rattle.votes.specs.Question.{asks}
use Rattle.votes.proofs.question.signers.Given as goal

abbrev pub invariant-loop-i : goal.invariant-loop-i
invariant-loop-i l = IsSet l.seen (signs (asks l.q l.history) (record_up_to l.words l.ids l.i))
