use Rattle.bench.proofs.Records.{marked-eight}
use Rattle.bench.proofs.seat.has_eight.Goals as goal

pub returns : goal.returns
returns c = λ h. marked-eight c.args.marks.now c.args.i h
