use native.Mathlib.Omega.{arith}
use Rattle.text.proofs.Stores.{both}
use Rattle.text.proofs.Decimal.{most-long}
use Rattle.service.specs.Service.{binding_text}
use Rattle.service.proofs.notices.put_bound.Goals as goal

pub write_dec-requires : goal.write_dec-requires
write_dec-requires c = omega (arith, c.requires, c.write_text-a.ensures.next, c.write_text-a.auto.out, most-long c.args.m (omega arith))

pub returns : goal.returns
unfolding binding_text
returns c = (both c.write_text-a.ensures c.write_dec.ensures, omega (arith, c.write_text-a.ensures.next, c.write_dec.ensures.next, most-long c.args.m (omega arith)))
