use Rattle.host.proofs.Loading.{Binds}
use Rattle.host.proofs.held.put_bindings.Given as goal

abbrev pub invariant-loop-j : goal.invariant-loop-j
invariant-loop-j l = Binds l.held l.initial.words l.words l.bound l.barred l.j
