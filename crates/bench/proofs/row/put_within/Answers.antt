use native.Mathlib.Omega.{arith}
use mathlib.Core.Path.{refl}
use Rattle.bench.proofs.Rows.{put-part}
use Rattle.bench.proofs.row.put_within.Goals as goal

pub returns : goal.returns
returns c = record {
  next = refl;
  is = put-part c.args.out.now c.args.t.now c.args.at c.min-start.result c.min-room.result c.min-start.ensures c.min-room.ensures _ _ (omega arith) c.copy_from_slice.ensures.after;
}
