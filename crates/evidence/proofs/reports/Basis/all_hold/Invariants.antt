use Rattle.evidence.proofs.Reporting as laws
use Rattle.evidence.proofs.reports.Basis.all_hold.Given as goal

abbrev pub invariant-loop-j : goal.invariant-loop-j
invariant-loop-j l = laws.HeldTo l.words l.s l.self.judge l.self.certs.now l.self.keys.now l.j
