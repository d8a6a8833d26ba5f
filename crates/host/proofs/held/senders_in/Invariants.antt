use Rattle.host.specs.Memory.{sender_in}
use Rattle.host.proofs.Loading.{Filled}
use Rattle.host.proofs.held.senders_in.Given as goal

abbrev pub invariant-loop-j : goal.invariant-loop-j
invariant-loop-j l = Filled (sender_in l.fields) 64 l.senders l.j
