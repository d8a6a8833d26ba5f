use native.Mathlib.Omega.{arith}
use Rattle.text.proofs.Stores.{both}
use Rattle.service.specs.Service.{numbers_text}
use Rattle.service.proofs.sets.put_numbers.Goals as goal

pub returns : goal.returns
unfolding numbers_text
returns c = (both c.write_text-a.ensures c.put_controllers.ensures.0, omega (arith, c.write_text-a.ensures.next, c.put_controllers.ensures.1))
