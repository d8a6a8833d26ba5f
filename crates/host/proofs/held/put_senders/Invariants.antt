use Rattle.host.specs.Memory.{sender_in}
use Rattle.host.proofs.Loading.{Puts}
use Rattle.host.proofs.held.put_senders.Given as goal

abbrev pub invariant-loop-j : goal.invariant-loop-j
invariant-loop-j l = Puts 32 64 sender_in l.senders 0 l.initial.words l.words l.j
