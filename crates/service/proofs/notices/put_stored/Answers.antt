use native.Mathlib.Omega.{arith}
use Rattle.text.proofs.Stores.{both}
use Rattle.service.specs.Service.{stored_text}
use Rattle.service.proofs.notices.put_stored.Goals as goal

pub returns-in-None : goal.returns-in-None
unfolding stored_text
returns-in-None c = rw c.in-None.is (c.write_text.ensures, omega (arith, c.write_text.ensures.next))

pub returns-in-Some : goal.returns-in-Some
unfolding stored_text
returns-in-Some c = rw c.in-Some.is (both c.write_text-a.ensures c.put_set.ensures.0, omega (arith, c.write_text-a.ensures.next, c.put_set.ensures.1))
