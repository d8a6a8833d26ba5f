use native.Mathlib.Omega.{arith}
use mathlib.Core.Path.{refl}
use lib.ListN.{replicate}
use Rattle.bench.specs.Writing.{row_of}
use Rattle.bench.proofs.Rows.{alone-long, alone-put}
use Rattle.bench.proofs.row.put_row_within.Goals as goal

pub slice_bounds-put_within-end : goal.slice_bounds-put_within-end
slice_bounds-put_within-end c = (alone-long (replicate 40 0) _ (row_of c.args.n c.args.who c.args.word c.args.value) _ c.put_row-end.ensures refl).0

pub put_within-requires : goal.put_within-requires
put_within-requires c = (omega arith, (alone-long (replicate 40 0) _ (row_of c.args.n c.args.who c.args.word c.args.value) _ c.put_row-end.ensures refl).1)

pub returns : goal.returns
returns c = alone-put (replicate 40 0) _ (row_of c.args.n c.args.who c.args.word c.args.value) _ c.put_row-end.ensures refl _ _ _ _ c.put_within.ensures
