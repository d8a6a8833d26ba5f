use native.Mathlib.Omega.{arith}
use Rattle.text.proofs.Decimal.{some-long, most-long}
use Rattle.text.proofs.Steps.{four-longer}
use Rattle.text.proofs.dec_len.Goals as goal

pub overflow_add-n : goal.overflow_add-n
overflow_add-n c = omega (arith, c.loop-x.invariant.0, four-longer c.loop-x.x c.loop-x-test.true, most-long c.args.v c.ranges.v.fits)

pub loop-x-preserved : goal.loop-x-preserved
loop-x-preserved c = (omega (arith, four-longer c.loop-x.x c.loop-x-test.true), omega arith)

pub overflow_add-result : goal.overflow_add-result
overflow_add-result c = omega (arith, c.loop-x.invariant.0, c.short_len.ensures, most-long c.args.v c.ranges.v.fits)

pub returns : goal.returns
returns c = (omega (arith, c.loop-x.invariant.0, c.short_len.ensures), omega (arith, c.short_len.ensures, some-long c.loop-x.x), omega (arith, c.loop-x.invariant.0, c.short_len.ensures, most-long c.args.v c.ranges.v.fits))
