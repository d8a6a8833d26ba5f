use native.Mathlib.Omega.{arith}
use Rattle.text.proofs.Stores.{both}
use Rattle.screen.proofs.ScreenLaws.{words_long, count_most}
use Rattle.screen.proofs.put_views.Goals as goal

pub put_number-a-requires : goal.put_number-a-requires
put_number-a-requires c = omega (arith, c.requires.0, c.requires.1, count_most c.args.n c.requires.0)

pub put_list-b-requires : goal.put_list-b-requires
put_list-b-requires c = (c.requires.0, omega (arith, c.requires.0, c.requires.1, count_most c.args.n c.requires.0, c.put_number-a.ensures.next, c.put_number-a.auto.out))

pub write_text-requires : goal.write_text-requires
write_text-requires c = omega (arith, c.requires.0, c.requires.1, count_most c.args.n c.requires.0, c.put_number-a.ensures.next, c.put_number-a.auto.out, c.put_list-b.ensures.next, c.put_list-b.auto.out, words_long c.args.list.now c.args.n)

pub returns : goal.returns
returns c = both c.put_number-a.ensures (both c.put_list-b.ensures c.write_text.ensures)
