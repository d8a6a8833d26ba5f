use native.Mathlib.Omega.{arith}
use Rattle.bench.proofs.Runs.{judged-run, made-run}
use Rattle.bench.proofs.lines.run_call.Goals as goal

pub judge-judged-requires : goal.judge-judged-requires
judge-judged-requires c = c.requires.1

pub put_step-requires : goal.put_step-requires
put_step-requires c = (c.requires.2, omega (arith, c.requires.3, c.seat_of-k.ensures))

pub returns-in-Some : goal.returns-in-Some
returns-in-Some c = judged-run _ _ _ _ _ _ _ _ _ _ _ _ c.requires.0 c.requires.4 c.judge-judged.ensures c.in-Some.is c.seat_of-k.ensures c.number_of.ensures c.put_step.ensures

pub make_call-a-requires : goal.make_call-a-requires
make_call-a-requires c = (c.requires.0, c.requires.1)

pub put_step-requires-2 : goal.put_step-requires-2
put_step-requires-2 c = (c.requires.2, omega (arith, c.requires.3, c.seat_of-k.ensures))

pub returns : goal.returns
returns c = made-run _ _ _ _ _ _ _ _ _ _ c.make_call-a.ensures c.seat_of-k.ensures c.number_of-2.ensures c.put_step-2.ensures
