use native.Mathlib.Omega.{arith}
use Rattle.text.proofs.Stores.{both}
use Rattle.service.specs.ServiceParts.{start_text}
use Rattle.service.proofs.ServiceLaws.{notice-most}
use Rattle.service.proofs.notices.put_start.Goals as goal

pub write_dec-c-requires : goal.write_dec-c-requires
write_dec-c-requires c = omega (arith, c.requires.1, c.write_text-a.ensures.next, c.write_text-a.auto.out, notice-most c.args.j c.requires.0)

pub write_text-d-requires : goal.write_text-d-requires
write_text-d-requires c = omega (arith, c.requires.1, c.write_text-a.ensures.next, c.write_text-a.auto.out, c.write_dec-c.ensures.next, c.write_dec-c.auto.out, notice-most c.args.j c.requires.0)

pub put_binding-e-requires : goal.put_binding-e-requires
put_binding-e-requires c = omega (arith, c.requires.1, c.write_text-a.ensures.next, c.write_text-a.auto.out, c.write_dec-c.ensures.next, c.write_dec-c.auto.out, c.write_text-d.ensures.next, c.write_text-d.auto.out, notice-most c.args.j c.requires.0)

pub write_text-requires : goal.write_text-requires
write_text-requires c = omega (arith, c.requires.1, c.write_text-a.ensures.next, c.write_text-a.auto.out, c.write_dec-c.ensures.next, c.write_dec-c.auto.out, c.write_text-d.ensures.next, c.write_text-d.auto.out, c.put_binding-e.ensures.1, c.put_binding-e.auto.out, notice-most c.args.j c.requires.0)

pub returns : goal.returns
unfolding start_text
returns c = (both c.write_text-a.ensures (both c.write_dec-c.ensures (both c.write_text-d.ensures (both c.put_binding-e.ensures.0 c.write_text.ensures))), omega (arith, c.write_text-a.ensures.next, c.write_dec-c.ensures.next, c.write_text-d.ensures.next, c.put_binding-e.ensures.1, c.write_text.ensures.next, notice-most c.args.j c.requires.0))
