use native.Mathlib.Omega.{arith}
use Rattle.text.proofs.Stores.{both}
use Rattle.statements.specs.Parts.{second_text}
use Rattle.statements.proofs.Written.{second-size}
use Rattle.statements.proofs.groups.put_second.Goals as goal

pub put_number-a-requires : goal.put_number-a-requires
put_number-a-requires c = omega (arith, c.requires, second-size c.args.binding c.args.payload c.args.stored c.args.kept)

pub put_number-b-requires : goal.put_number-b-requires
put_number-b-requires c = omega (arith, c.requires, second-size c.args.binding c.args.payload c.args.stored c.args.kept, c.put_number-a.ensures.next, c.put_number-a.auto)

pub put_number-c-requires : goal.put_number-c-requires
put_number-c-requires c = omega (arith, c.requires, second-size c.args.binding c.args.payload c.args.stored c.args.kept, c.put_number-a.ensures.next, c.put_number-a.auto, c.put_number-b.ensures.next, c.put_number-b.auto)

pub put_number-requires : goal.put_number-requires
put_number-requires c = omega (arith, c.requires, second-size c.args.binding c.args.payload c.args.stored c.args.kept, c.put_number-a.ensures.next, c.put_number-a.auto, c.put_number-b.ensures.next, c.put_number-b.auto, c.put_number-c.ensures.next, c.put_number-c.auto)

pub returns : goal.returns
unfolding second_text
returns c = both c.put_number-a.ensures (both c.put_number-b.ensures (both c.put_number-c.ensures c.put_number.ensures))
