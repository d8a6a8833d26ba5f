use native.Mathlib.Omega.{arith}
use Rattle.text.proofs.Stores.{both}
use Rattle.service.specs.Service.{number_line}
use Rattle.service.proofs.ServiceLaws.{byte-most}
use Rattle.service.proofs.heads.put_number.Goals as goal

pub write_dec-b-requires : goal.write_dec-b-requires
write_dec-b-requires c = omega (arith, c.requires, c.write_text-a.ensures.next, c.write_text-a.auto.out, byte-most c.args.k (omega arith))

pub write_text-requires : goal.write_text-requires
write_text-requires c = omega (arith, c.requires, c.write_text-a.ensures.next, c.write_text-a.auto.out, c.write_dec-b.ensures.next, c.write_dec-b.auto.out, byte-most c.args.k (omega arith))

pub returns : goal.returns
unfolding number_line
returns c = (both c.write_text-a.ensures (both c.write_dec-b.ensures c.write_text.ensures), omega (arith, c.write_text-a.ensures.next, c.write_dec-b.ensures.next, c.write_text.ensures.next, byte-most c.args.k (omega arith)))
