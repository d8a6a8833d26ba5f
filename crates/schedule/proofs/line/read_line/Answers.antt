use native.Mathlib.Omega.{arith}
use mathlib.Core.Path.{refl, sym}
use lib.Seq.{length-take-le}
use Rattle.schedule.proofs.Lines.{line-last, line_read}
use Rattle.schedule.proofs.line.read_line.Goals as goal

pub slice_bounds-read_body-end : goal.slice_bounds-read_body-end
slice_bounds-read_body-end c = sym (length-take-le _ c.args.s.now (omega arith))

pub returns-then-end-s : goal.returns-then-end-s
returns-then-end-s c = line_read c.args.s.now _ c.line_end-end.ensures _ _ refl c.if-end-s.true c.read_body.ensures

pub returns : goal.returns
returns c = line-last c.args.s.now _ c.line_end-end.ensures c.if-end-s.false
