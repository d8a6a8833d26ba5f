use native.Mathlib.Omega.{arith}
use Rattle.engine.proofs.Keeps.{record-full, pool-placed}
use Rattle.engine.proofs.keep.place.Goals as goal

pub returns-then-record_length-ge-CAPACITY : goal.returns-then-record_length-ge-CAPACITY
returns-then-record_length-ge-CAPACITY c = record-full (omega (arith, c.record_length.ensures.0, c.if-record_length-ge-CAPACITY.true))

pub returns : goal.returns
returns c = pool-placed _ _ _ c.args.st _ c.requires (omega (arith, c.record_length.ensures.0, c.if-record_length-ge-CAPACITY.false)) _ c.append.ensures
