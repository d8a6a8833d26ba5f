use native.Mathlib.Omega.{arith}
use Rattle.text.proofs.Decimal.{most-long}
use Rattle.screen.proofs.ScreenLaws.{notice-end, number-end, standing-end, after-end, after-most, certified-wrote}
use Rattle.screen.proofs.put_certificate.Goals as goal

pub write_text-a-requires : goal.write_text-a-requires
write_text-a-requires c = omega (arith, c.requires.2)

pub put_notice-b-requires : goal.put_notice-b-requires
put_notice-b-requires c = (c.requires.0, omega (arith, c.requires.2, c.write_text-a.ensures.next, c.write_text-a.auto.out))

pub put_number-c-requires : goal.put_number-c-requires
put_number-c-requires c = omega (arith, c.requires.2, c.write_text-a.ensures.next, c.write_text-a.auto.out, notice-end c.args.one c.args.j c.requires.0 c.put_notice-b.ensures, c.put_notice-b.auto.out, most-long c.args.payload (omega arith))

pub put_standing-d-requires : goal.put_standing-d-requires
put_standing-d-requires c = omega (arith, c.requires.2, c.write_text-a.ensures.next, c.write_text-a.auto.out, notice-end c.args.one c.args.j c.requires.0 c.put_notice-b.ensures, c.put_notice-b.auto.out, number-end c.args.payload (omega arith) c.put_number-c.ensures, c.put_number-c.auto.out)

pub put_number-e-requires : goal.put_number-e-requires
put_number-e-requires c = omega (arith, c.requires.2, c.write_text-a.ensures.next, c.write_text-a.auto.out, notice-end c.args.one c.args.j c.requires.0 c.put_notice-b.ensures, c.put_notice-b.auto.out, number-end c.args.payload (omega arith) c.put_number-c.ensures, c.put_number-c.auto.out, standing-end c.args.stored c.put_standing-d.ensures, c.put_standing-d.auto.out, after-most c.args.after c.requires.1)

pub write_text-requires : goal.write_text-requires
write_text-requires c = omega (arith, c.requires.2, c.write_text-a.ensures.next, c.write_text-a.auto.out, notice-end c.args.one c.args.j c.requires.0 c.put_notice-b.ensures, c.put_notice-b.auto.out, number-end c.args.payload (omega arith) c.put_number-c.ensures, c.put_number-c.auto.out, standing-end c.args.stored c.put_standing-d.ensures, c.put_standing-d.auto.out, after-end c.args.after c.requires.1 c.put_number-e.ensures, c.put_number-e.auto.out)

pub returns : goal.returns
returns c = certified-wrote c.args.one c.args.j c.args.payload c.args.stored c.args.after c.requires.0 (omega arith) c.requires.1 c.write_text-a.ensures c.put_notice-b.ensures c.put_number-c.ensures c.put_standing-d.ensures c.put_number-e.ensures c.write_text.ensures
