use Rattle.schedule.proofs.Values.{SoRead}
use Rattle.schedule.proofs.line.many_at.Given as goal

abbrev pub invariant-loop-j : goal.invariant-loop-j
invariant-loop-j g l = SoRead (goal.F-post g l.read) g.row.N l.from l.memory l.j l.at
