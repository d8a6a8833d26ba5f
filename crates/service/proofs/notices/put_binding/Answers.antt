use native.Mathlib.Omega.{arith}
use Rattle.service.specs.Service.{binding_text}
use Rattle.service.proofs.notices.put_binding.Goals as goal

pub returns-in-Unbound : goal.returns-in-Unbound
unfolding binding_text
returns-in-Unbound c = rw c.in-Unbound.is (c.write_text.ensures, omega (arith, c.write_text.ensures.next))

pub returns-in-Bound : goal.returns-in-Bound
returns-in-Bound c = rw c.in-Bound.is c.put_bound.ensures

pub returns-in-Barred : goal.returns-in-Barred
unfolding binding_text
returns-in-Barred c = rw c.in-Barred.is (c.write_text-in-Barred.ensures, omega (arith, c.write_text-in-Barred.ensures.next))
