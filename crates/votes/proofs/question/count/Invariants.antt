use Rattle.views.specs.View.{view_of}
use Rattle.pool.proofs.Records.{Waiting}
use Rattle.votes.specs.Question.{asks}
use Rattle.votes.proofs.question.count.Given as goal

abbrev pub invariant-loop-i : goal.invariant-loop-i
invariant-loop-i l = Waiting l.words l.ids (view_of l.q.at) (asks l.q l.history) l.i l.a
