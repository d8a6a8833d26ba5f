use Rattle.engine.specs.Situation.{ToldTo}
use Rattle.engine.proofs.turn.tell_all.Given as goal

abbrev pub invariant-loop-j : goal.invariant-loop-j
invariant-loop-j l = ToldTo l.held l.e l.certs l.j l.told
