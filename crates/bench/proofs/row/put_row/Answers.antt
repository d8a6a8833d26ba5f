use native.Mathlib.Omega.{arith}
use mathlib.Core.Path.{◌∙◌}
use lib.ListN.{length-set}
use Rattle.bench.proofs.Rows.{line-most, who-most, word-most, row-most, row_wrote}
use Rattle.bench.proofs.row.put_row.Goals as goal

pub write_dec-a-requires : goal.write_dec-a-requires
write_dec-a-requires c = omega (arith, c.requires.0, line-most c.args.n c.requires.1)

pub put_number-b-requires : goal.put_number-b-requires
put_number-b-requires c = omega (arith, c.requires.0, line-most c.args.n c.requires.1, who-most c.args.who c.requires.2, word-most c.args.word, c.write_dec-a.ensures.next, c.write_dec-a.auto)

pub put-c-requires : goal.put-c-requires
put-c-requires c = omega (arith, c.requires.0, line-most c.args.n c.requires.1, who-most c.args.who c.requires.2, word-most c.args.word, c.write_dec-a.ensures.next, c.write_dec-a.auto, c.put_number-b.ensures.next, c.put_number-b.auto)

pub put_value-d-requires : goal.put_value-d-requires
put_value-d-requires c = omega (arith, c.requires.0, line-most c.args.n c.requires.1, who-most c.args.who c.requires.2, word-most c.args.word, c.write_dec-a.ensures.next, c.write_dec-a.auto, c.put_number-b.ensures.next, c.put_number-b.auto, c.put-c.ensures.next, c.put-c.auto)

pub bounds-out-d : goal.bounds-out-d
bounds-out-d c = omega (arith, c.requires.0, line-most c.args.n c.requires.1, who-most c.args.who c.requires.2, word-most c.args.word, c.write_dec-a.ensures.next, c.write_dec-a.auto, c.put_number-b.ensures.next, c.put_number-b.auto, c.put-c.ensures.next, c.put-c.auto, c.put_value-d.ensures.0.next, c.put_value-d.auto, c.put_value-d.ensures.1)

pub overflow_add-result : goal.overflow_add-result
overflow_add-result c = omega (arith, c.requires.0, line-most c.args.n c.requires.1, who-most c.args.who c.requires.2, word-most c.args.word, c.write_dec-a.ensures.next, c.write_dec-a.auto, c.put_number-b.ensures.next, c.put_number-b.auto, c.put-c.ensures.next, c.put-c.auto, c.put_value-d.ensures.0.next, c.put_value-d.auto, c.put_value-d.ensures.1)

pub shape_of-out : goal.shape_of-out
shape_of-out c = length-set c.put_value-d.new.out c.put_value-d.result 10 ∙ c.put_value-d.auto.out ∙ c.put-c.auto.out ∙ c.put_number-b.auto.out ∙ c.write_dec-a.auto.out

pub returns : goal.returns
returns c = (row_wrote c.args.n c.args.who c.args.word c.args.value c.write_dec-a.ensures c.put_number-b.ensures c.put-c.ensures c.put_value-d.ensures.0, row-most c.args.n c.args.who c.args.word c.args.value c.requires.1 c.requires.2 c.put_value-d.ensures.1)
