use native.Mathlib.Omega.{arith}
use mathlib.Core.Path.{◌∙◌}
use Rattle.bench.proofs.Records.{listed}
use Rattle.bench.proofs.seat.has_number.Goals as goal

pub returns : goal.returns
returns c = c.contains.ensures.value ∙ listed c.args.ids.now c.args.n _ c.record_length-end.ensures.0 (omega arith)
