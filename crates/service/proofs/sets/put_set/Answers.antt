use native.Mathlib.Omega.{arith}
use Rattle.text.proofs.Stores.{both}
use Rattle.text.proofs.Hex.{hex-length}
use Rattle.service.specs.Service.{set_text}
use Rattle.service.proofs.sets.put_set.Goals as goal

pub put_numbers-requires : goal.put_numbers-requires
put_numbers-requires c = omega (arith, c.requires, c.write_hex-a.ensures.next, c.write_hex-a.auto.out, hex-length 4 c.args.set)

pub returns : goal.returns
unfolding set_text
returns c = (both c.write_hex-a.ensures c.put_numbers.ensures.0, omega (arith, c.write_hex-a.ensures.next, c.put_numbers.ensures.1, hex-length 4 c.args.set))
