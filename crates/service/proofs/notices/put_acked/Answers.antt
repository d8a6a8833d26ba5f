use native.Mathlib.Omega.{arith}
use Rattle.text.proofs.Stores.{both}
use Rattle.text.proofs.Decimal.{most-long}
use Rattle.service.specs.ServiceParts.{acked_text}
use Rattle.service.proofs.notices.put_acked.Goals as goal

pub write_dec-b-requires : goal.write_dec-b-requires
write_dec-b-requires c = omega (arith, c.requires, c.write_text-a.ensures.next, c.write_text-a.auto.out, most-long c.args.m (omega arith))

pub write_text-c-requires : goal.write_text-c-requires
write_text-c-requires c = omega (arith, c.requires, c.write_text-a.ensures.next, c.write_text-a.auto.out, c.write_dec-b.ensures.next, c.write_dec-b.auto.out, most-long c.args.m (omega arith))

pub put_set-requires : goal.put_set-requires
put_set-requires c = omega (arith, c.requires, c.write_text-a.ensures.next, c.write_text-a.auto.out, c.write_dec-b.ensures.next, c.write_dec-b.auto.out, c.write_text-c.ensures.next, c.write_text-c.auto.out, most-long c.args.m (omega arith))

pub returns : goal.returns
unfolding acked_text
returns c = (both c.write_text-a.ensures (both c.write_dec-b.ensures (both c.write_text-c.ensures c.put_set.ensures.0)), omega (arith, c.write_text-a.ensures.next, c.write_dec-b.ensures.next, c.write_text-c.ensures.next, c.put_set.ensures.1, most-long c.args.m (omega arith)))
