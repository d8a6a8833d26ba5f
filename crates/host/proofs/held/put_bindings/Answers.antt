use Rattle.host.proofs.Loading.{bind-first, bind-none, bind-bound, bind-barred, bind-last}
use Rattle.host.proofs.held.put_bindings.Goals as goal
use Rattle.host.proofs.held.put_bindings.Goals.{in-Unbound, in-Bound, in-Barred}

pub loop-j-init : goal.loop-j-init
loop-j-init c = bind-first _ _ c.told-words

pub loop-j-preserved : goal.loop-j-preserved
loop-j-preserved c = elim c.match-held-j.branch [
  | in-Unbound w ↦ rw (w.words-is, w.bound-is, w.barred-is) (bind-none c.loop-j.invariant c.loop-j-test.true w.in-Unbound.is)
  | in-Bound w ↦ rw (w.words-is, w.bound-is, w.barred-is) (bind-bound c.loop-j.invariant c.loop-j-test.true _ w.in-Bound.is w.with_notice-bound.ensures)
  | in-Barred w ↦ rw (w.words-is, w.bound-is, w.barred-is) (bind-barred c.loop-j.invariant c.loop-j-test.true w.in-Barred.is w.with_notice-barred.ensures)
]

pub returns : goal.returns
returns c = bind-last c.loop-j.invariant c.loop-j-test.false c.told-held
